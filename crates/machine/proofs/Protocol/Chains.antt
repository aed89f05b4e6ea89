-- Laws of the chains of one lane and one block: return messages that lead from a status to another, and down messages that lead the
-- line to where they meet. Assumes nothing.
use Prim.Native.Nat.{ℕ, ◌+◌}
use mathlib.Core.Logic.{◌⊎◌, inl, inr}
use mathlib.Core.Path.{◌≡◌, refl, sym, ap, ◌∙◌, subst}
use mathlib.Core.Bool.{true, false, cond}
use mathlib.Core.List.{List, [], ◌∷◌, ◌++◌}
use native.Mathlib.Omega.{arith}
use Rattle.words.proofs.Folds.{or_left, or_right}
use Rattle.queues.specs.Messages.{ReturnMessage}
use Rattle.queues.specs.declared.ReturnKind.{ReturnKind}
use Rattle.queues.specs.declared.ReturnKind.TheVariants.{Eject, WriteEject, Updated, Purged, PurgedWords, Gone}
use Rattle.queues.specs.Messages.{DownMessage}
use Rattle.queues.specs.declared.DownKind.{DownKind}
use Rattle.queues.specs.declared.DownKind.TheVariants.{Update, Purge, Grant, BareGrant}
use Rattle.lanes.specs.declared.Waiting.{Waiting}
use Rattle.machine.specs.Machine.Return.{is_answer}
use Rattle.machine.specs.Machine.Settle.{is_order}
use Rattle.machine.proofs.Bounds.KeepsLane.{clash}
use Rattle.machine.proofs.Laws.Tests.{on}
use Rattle.machine.proofs.Protocol.BlockState.{Status, Invalid, Modified, held, dirty, Seen}
use Rattle.machine.proofs.Protocol.Invariant.{Fits, Sent, loads, filled, Rest, DueHead, Due, Chain, answer_count, grant_count, bearing, ReturnsBear, is_grant, DownsBear, Bears, is_updated, some_updated}

-- no message leads to Modified
pub fits_clean : (x : Status) (m : ReturnKind) (y : Status) → Fits x m y → dirty y ≡ false
fits_clean x Eject y f = rw f.1
fits_clean x WriteEject y f = rw f.1
fits_clean x Updated y f = rw f.1
fits_clean x Purged y f = rw f.1
fits_clean x PurgedWords y f = rw f.1
fits_clean x Gone y f = rw f.1

-- from Invalid only GONE leads on, to Invalid
pub fits_invalid : (x : Status) (m : ReturnKind) (y : Status) → Fits x m y → x ≡ Invalid → (m ≡ Gone) × (y ≡ Invalid)
fits_invalid x Eject y f e = clash (cc f.0)
fits_invalid x WriteEject y f e = clash (cc f.0)
fits_invalid x Updated y f e = clash (cc (f.0, ap held e))
fits_invalid x Purged y f e = clash (cc f.0)
fits_invalid x PurgedWords y f e = clash (cc f.0)
fits_invalid x Gone y f e = (refl, f.1)

-- a message joins the return queue
pub join : (v x y : Status) (q : List ReturnMessage) (m : ReturnMessage) → Sent v q x → Fits x m.kind y → Sent v (q ++ (m ∷ [])) y
join v x y [] m s f = (y, rw s f, refl)
join v x y (n ∷ q) m s f = (s.0, s.1, join s.0 x y q m s.2 f)

-- messages that lead to Modified: there are none, and memory knows the owner
pub idle : (v x : Status) (q : List ReturnMessage) → Sent v q x → x ≡ Modified → (v ≡ Modified) × (q ≡ [])
idle v x [] s e = (s ∙ e, refl)
idle v x (m ∷ q) s e = clash (cc (fits_clean v m.kind s.0 s.1, ap dirty (idle s.0 x q s.2 e).0))

-- the messages of a lane that memory believes without a copy lead to Invalid, and bear no words
pub sent_invalid : (v x : Status) (q : List ReturnMessage) → Sent v q x → v ≡ Invalid → x ≡ Invalid
sent_invalid v x [] s e = sym s ∙ e
sent_invalid v x (m ∷ q) s e = sent_invalid s.0 x q s.2 (fits_invalid v m.kind s.0 s.1 e).1

pub sent_bears : (g : List ℕ) (v x : Status) (q : List ReturnMessage) → Sent v q x → v ≡ Invalid → ReturnsBear g q
sent_bears g v x [] s e = tt
sent_bears g v x (m ∷ q) s e =
    let h = fits_invalid v m.kind s.0 s.1 e in
    ((λ z. clash (cc (z, ap bearing h.0))), sent_bears g s.0 x q s.2 h.1)

-- an order alone, or none: where it leads
pub rest_meets : (y : Status) (q : List DownMessage) (x : Status) → Rest y q x → y ≡ x
rest_meets y [] x r = r
rest_meets y (m ∷ q) x r = r.2

-- .. it says nothing of the line
pub rest_other : (y : Status) (q : List DownMessage) (x z : Status) → Rest y q x → Rest z q z
rest_other y [] x z r = refl
rest_other y (m ∷ q) x z r = (r.0, r.1, refl)

-- .. it is no grant
pub rest_grants : (y : Status) (q : List DownMessage) (x : Status) → Rest y q x → grant_count q ≡ 0
rest_grants y [] x r = refl
rest_grants y (m ∷ q) x r = rw (r.0, r.1)

-- .. it bears no words
pub rest_bears : (g : List ℕ) (y : Status) (q : List DownMessage) (x : Status) → Rest y q x → DownsBear g q
rest_bears g y [] x r = tt
rest_bears g y (m ∷ q) x r = ((λ z. clash (go m.kind z r.0)), rw r.1 tt)
  where
    go : (n : DownKind) → is_grant n ≡ true → is_order n ≡ true → ◌≡◌ {A = ℕ} 0 1
    go Update z o = cc
    go Purge z o = cc
    go Grant z o = cc
    go BareGrant z o = cc

-- .. and it is due whatever waits
pub rest_due : (w : Waiting) (y : Status) (q : List DownMessage) (x : Status) → Rest y q x → Due w y q x
rest_due w y [] x r = r
rest_due w y (m ∷ q) x r = go m.kind r.0
  where
    go : (n : DownKind) → is_order n ≡ true → DueHead w y n q x
    go Update o = (r.1, r.2)
    go Purge o = (r.1, r.2)
    go Grant o = clash cc
    go BareGrant o = clash cc

-- a grant leads to a copy
pub filled_held : (w : Waiting) → held (filled w) ≡ true
filled_held w = on (loads w) (λ e. rw e) (λ e. rw e)

-- what is due: no grant, or one, which goes to a line that is not Modified and leads to a copy
pub due_split : (w : Waiting) (l : Status) (q : List DownMessage) (x : Status) → Due w l q x →
    Rest l q x ⊎ ((held x ≡ true) × (dirty l ≡ false) × (grant_count q ≡ 1))
due_split w l [] x d = inl d
due_split w l (m ∷ q) x d = go m.kind refl d
  where
    go : (n : DownKind) → m.kind ≡ n → DueHead w l n q x → Rest l (m ∷ q) x ⊎ ((held x ≡ true) × (dirty l ≡ false) × (grant_count (m ∷ q) ≡ 1))
    go Update e h = inl (ap is_order e, h.0, h.1)
    go Purge e h = inl (ap is_order e, h.0, h.1)
    go Grant e h = inr (subst (λ (y : Status). held y ≡ true) (rest_meets (filled w) q x h.1) (filled_held w), ap dirty h.0, rw (e, rest_grants (filled w) q x h.1))
    go BareGrant e h = inr (ap held (sym (rest_meets Modified q x h.2)), ap dirty h.0, rw (e, rest_grants Modified q x h.2))

-- no grant is due: none is counted; or it would lead to no copy; or the line is Modified
pub due_ungranted : (w : Waiting) (l : Status) (q : List DownMessage) (x : Status) → Due w l q x → grant_count q ≡ 0 → Rest l q x
due_ungranted w l q x d e = elim (due_split w l q x d) [ inl r ↦ r | inr h ↦ clash (cc h.2) ]

pub due_invalid : (w : Waiting) (l : Status) (q : List DownMessage) (x : Status) → Due w l q x → x ≡ Invalid → Rest l q x
due_invalid w l q x d e = elim (due_split w l q x d) [ inl r ↦ r | inr h ↦ clash (cc (h.0, ap held e)) ]

pub due_modified : (w : Waiting) (l : Status) (q : List DownMessage) (x : Status) → Due w l q x → l ≡ Modified → Rest l q x
due_modified w l q x d e = elim (due_split w l q x d) [ inl r ↦ r | inr h ↦ clash (cc (h.1, ap dirty e)) ]

-- a lane that memory believes without a copy has none and bears no words
pub absent_line : (v : Status) (l : Seen) → Chain v l → v ≡ Invalid → l.line ≡ Invalid
absent_line v l c e =
    let x = sent_invalid v c.meet l.returns c.sent e in
    rest_meets l.line l.downs c.meet (due_invalid l.waiting l.line l.downs c.meet c.due x) ∙ x

pub absent_bears : (g : List ℕ) (v : Status) (l : Seen) → Chain v l → v ≡ Invalid → Bears g l
absent_bears g v l c e =
    record {
      line = λ h. clash (cc (h, ap held (absent_line v l c e)));
      returns = sent_bears g v c.meet l.returns c.sent e;
      downs = rest_bears g l.line l.downs c.meet (due_invalid l.waiting l.line l.downs c.meet c.due (sent_invalid v c.meet l.returns c.sent e));
    }

-- what a message that joins the return queue adds: to the answers, to the words borne, to UPDATED
pub answers_join : (q : List ReturnMessage) (m : ReturnMessage) → answer_count (q ++ (m ∷ [])) ≡ answer_count q + cond (is_answer m.kind) 1 0
answers_join [] m = omega arith
answers_join (n ∷ q) m = let h = answers_join q m in omega arith

pub bears_join : (g : List ℕ) (q : List ReturnMessage) (m : ReturnMessage) → ReturnsBear g q → (bearing m.kind ≡ true → m.words ≡ g) → ReturnsBear g (q ++ (m ∷ []))
bears_join g [] m b h = (h, tt)
bears_join g (n ∷ q) m b h = (b.0, bears_join g q m b.1 h)

pub updated_join : (q : List ReturnMessage) (m : ReturnMessage) → some_updated q ≡ false → is_updated m.kind ≡ false → some_updated (q ++ (m ∷ [])) ≡ false
updated_join [] m e h = rw h
updated_join (n ∷ q) m e h = rw (updated_join q m (or_right (is_updated n.kind) (some_updated q) e) h, or_left (is_updated n.kind) (some_updated q) e)
