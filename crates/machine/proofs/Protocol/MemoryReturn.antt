-- Memory takes the head of a lane's return queue, and keeps the invariant of its block. Assumes nothing.
use Prim.Native.Nat.{ℕ, ◌+◌, ◌-◌, ◌<◌}
use mathlib.Core.Logic.{◌⊎◌, inl, inr, ◌≢◌}
use mathlib.Core.Path.{◌≡◌, refl, sym, ap, ◌∙◌}
use mathlib.Core.Bool.{true, false, cond}
use mathlib.Core.List.{List, ◌∷◌}
use lib.Dec.{eqb}
use borrow.Author.Tests.{eq-eqb, ne_eqb}
use native.Mathlib.Omega.{arith}
use Rattle.words.specs.declared.LaneNo.{LaneNo}
use Rattle.words.proofs.Folds.{or_left, or_right}
use Rattle.queues.specs.Messages.{ReturnMessage}
use Rattle.queues.specs.declared.ReturnKind.{ReturnKind}
use Rattle.queues.specs.declared.ReturnKind.TheVariants.{Eject, WriteEject, Updated, Purged, PurgedWords, Gone}
use Rattle.lanes.specs.declared.Command.{Command}
use Rattle.lanes.specs.declared.Command.TheVariants.{ReadShared, ReadExclusive, Exclude}
use Rattle.store.specs.declared.Block.{Block}
use Rattle.store.specs.declared.Service.{Service}
use Rattle.store.specs.Control.{lowered, awaited_of}
use Rattle.machine.specs.Machine.Return.{is_answer, taken_by}
use Rattle.machine.proofs.Laws.Sets.{same?}
use Rattle.machine.proofs.Bounds.KeepsLane.{clash}
use Rattle.machine.proofs.List.Owes.{upd}
use Rattle.machine.proofs.Protocol.BlockState.{Status, Invalid, dirty, Seen, BlockState}
use Rattle.machine.proofs.Protocol.Invariant.{Fits, Sent, Chain, answer_count, owed, serving, bearing, ReturnsBear, Bears, is_updated, some_update, some_updated, Covered, exclusive, ServiceFits, ServedWell, Inv}
use Rattle.machine.proofs.Protocol.Moves.{take_seen, return_state}
use Rattle.machine.proofs.Protocol.Chains.{fits_clean, fits_invalid}
use Rattle.machine.proofs.Laws.Updates.{upd_other, upd_cases}
use Rattle.machine.proofs.Protocol.Directories.{return_directory, taken_words}
use Rattle.machine.proofs.Protocol.MemoryMoves.{LaneFits, lane_fits, PutFits, put_keeps}
use Rattle.std.specs.Prelude.{Option, Some, None}

-- the head fits the view, and the chain goes on from there
head_fits : (v : Status) (l : Seen) (m : ReturnMessage) (rest : List ReturnMessage) → Chain v l → l.returns ≡ m ∷ rest →
    (y : Status) × Fits v m.kind y × Chain y (take_seen rest l)
head_fits v l m rest c r =
    let s = c.sent in
    let t : Sent v (m ∷ rest) c.meet = rw r at s in
    (t.0, t.1, record { meet = c.meet; sent = t.2; due = c.due })

-- its words, and those of the messages behind it
head_bears : (f : List ℕ) (l : Seen) (m : ReturnMessage) (rest : List ReturnMessage) → Bears f l → l.returns ≡ m ∷ rest → ReturnsBear f (m ∷ rest)
head_bears f l m rest h r = let s = h.returns in rw r at s

-- what the lane owes is Less by an answer
head_owed : (l : Seen) (m : ReturnMessage) (rest : List ReturnMessage) → l.returns ≡ m ∷ rest → owed l ≡ cond (is_answer m.kind) 1 0 + owed (take_seen rest l)
unfolding owed
head_owed l m rest r = let e = ap answer_count r in omega arith

-- the lane's conjuncts without the head
take_fits : (v : Status) (x z : Option Service) (f : List ℕ) (k : ℕ) (l : Seen) (m : ReturnMessage) (rest : List ReturnMessage) (y : Status) →
    LaneFits v x f k l → l.returns ≡ m ∷ rest → Chain y (take_seen rest l) → serving z k ≡ serving x k → LaneFits y z f k (take_seen rest l)
take_fits v x z f k l m rest y h r c e =
    record {
      chain = c;
      grant = rw e h.grant;
      wait = h.wait;
      bears = record { line = h.bears.line; returns = (head_bears f l m rest h.bears r).1; downs = h.bears.downs };
    }

-- a lane without a copy is as every command needs it
pub invalid_covered : (x : Command) → Covered x Invalid
invalid_covered ReadShared = refl
invalid_covered ReadExclusive = refl
invalid_covered Exclude = refl

-- so is one that has just answered, or given up its copy
fits_covered : (v : Status) (kind : ReturnKind) (y : Status) (x : Command) → Fits v kind y → (exclusive x ≡ true → is_updated kind ≡ false) → Covered x y
fits_covered v Eject y x t e = rw t.1 (invalid_covered x)
fits_covered v WriteEject y x t e = rw t.1 (invalid_covered x)
fits_covered v Updated y ReadShared t e = rw t.1
fits_covered v Updated y ReadExclusive t e = clash (cc (e refl))
fits_covered v Updated y Exclude t e = clash (cc (e refl))
fits_covered v Purged y x t e = rw t.1 (invalid_covered x)
fits_covered v PurgedWords y x t e = rw t.1 (invalid_covered x)
fits_covered v Gone y x t e = rw t.1 (invalid_covered x)

-- main memory after it: the message's words, or those that were there
take_main : (v : ℕ → Status) (b : Block) (f ws : List ℕ) (k : LaneNo) (kind : ReturnKind) (y : Status) → Fits (v k.0) kind y → (bearing kind ≡ true → ws ≡ f) →
    (((j : ℕ) → dirty (v j) ≡ false) → b.words ≡ f) → ((j : ℕ) → dirty (upd v k.0 y j) ≡ false) → (taken_by kind ws k b).words ≡ f
take_main v b f ws k kind y t w main h = taken_words kind ws k b ∙ go kind t w
  where
    clean : dirty (v k.0) ≡ false → (j : ℕ) → dirty (v j) ≡ false
    clean e j = elim (same? j k.0) [ inl q ↦ rw q e | inr n ↦ sym (ap dirty (upd_other v k.0 y j n)) ∙ h j ]

    go : (a : ReturnKind) → Fits (v k.0) a y → (bearing a ≡ true → ws ≡ f) → cond (bearing a) ws b.words ≡ f
    go Eject t w = main (clean (rw t.0))
    go WriteEject t w = w refl
    go Updated t w = w refl
    go Purged t w = main (clean (rw t.0))
    go PurgedWords t w = w refl
    go Gone t w = main (clean (rw t.0))

-- the service after it, which awaits n answers
take_service : (v : ℕ → Status) (lane : ℕ → Seen) (k : ℕ) (m : ReturnMessage) (rest : List ReturnMessage) (y : Status) (s : Service) (n : ℕ) →
    ServiceFits v lane s → (lane k).returns ≡ m ∷ rest → Fits (v k) m.kind y →
    ServiceFits (upd v k y) (upd lane k (take_seen rest (lane k))) (record { lane = s.lane; block = s.block; command = s.command; awaited = n; bare = s.bare })
take_service v lane k m rest y s n g r t =
    record {
      below = g.below;
      returns = rw here g.returns;
      downs = rw here g.downs;
      bare = rw here g.bare;
      operation = g.operation;
      waits = rw here g.waits;
      command = g.command;
      cover = cover;
      no_update = λ e. upd_cases (λ (j : ℕ) (l : Seen). some_update l.downs ≡ false) lane k (take_seen rest (lane k)) (g.no_update e k) (λ j _. g.no_update e j);
      no_updated = λ e. upd_cases (λ (j : ℕ) (l : Seen). some_updated l.returns ≡ false) lane k (take_seen rest (lane k))
          (or_right (is_updated m.kind) (some_updated rest) (head_updated e)) (λ j _. g.no_updated e j);
    }
  where
    here : eqb s.lane.0 k ≡ false
    here = ne_eqb s.lane.0 k (λ e. clash (cc (ap (λ (j : ℕ). (lane j).returns) e, g.returns)))

    head_updated : exclusive s.command ≡ true → some_updated (m ∷ rest) ≡ false
    head_updated e = sym (ap some_updated r) ∙ g.no_updated e k

    cover : (j : ℕ) → j ≢ s.lane.0 → owed (upd lane k (take_seen rest (lane k)) j) ≡ 0 → Covered s.command (upd v k y j)
    cover j p z = go (same? j k)
      where
        go : (j ≡ k) ⊎ (j ≢ k) → Covered s.command (upd v k y j)
        go (inl q) = rw (q, eq-eqb k k refl) (fits_covered (v k) m.kind y s.command t (λ e. or_left (is_updated m.kind) (some_updated rest) (head_updated e)))
        go (inr q) = rw (ne_eqb j k q) (g.cover j p (sym (ap owed (upd_other lane k (take_seen rest (lane k)) j q)) ∙ z))

-- memory takes the head; x is the service after it
take_keeps : (v : ℕ → Status) (b : BlockState) (f : List ℕ) (k : LaneNo) (m : ReturnMessage) (rest : List ReturnMessage) (x : Option Service) → Inv v b f → k.0 < 8 →
    (b.lane k.0).returns ≡ m ∷ rest → ((j : ℕ) → serving x j ≡ serving b.service j) →
    awaited_of x + cond (is_answer m.kind) 1 0 ≡ awaited_of b.service →
    ((y : Status) → Fits (v k.0) m.kind y → ServedWell (upd v k.0 y) (upd b.lane k.0 (take_seen rest (b.lane k.0))) x) →
    (u : (ℕ → Status)) × Inv u (return_state k m rest x b) f
take_keeps v b f k m rest x i h r e a s =
    let t = head_fits (v k.0) (b.lane k.0) m rest (i.chain k.0) r in
    (upd v k.0 t.0, put_keeps v b f k.0 t.0 (take_seen rest (b.lane k.0)) (taken_by m.kind m.words k b.block) x i h (taken t.0 t.1 t.2))
  where
    taken : (y : Status) → Fits (v k.0) m.kind y → Chain y (take_seen rest (b.lane k.0)) →
        PutFits v b f k.0 y (take_seen rest (b.lane k.0)) (taken_by m.kind m.words k b.block) x
    taken y t c =
        record {
          directory = return_directory v b.block k m.kind m.words y i.directory i.sole t;
          here = take_fits (v k.0) b.service x f k.0 (b.lane k.0) m rest y (lane_fits v b f i k.0) r c (e k.0);
          others = λ j _. e j;
          alone = λ q. clash (cc (fits_clean (v k.0) m.kind y t));
          gone = λ j n q. (fits_invalid (v k.0) m.kind y t (i.sole j k.0 q (λ z. n (sym z)))).1;
          main = take_main v b.block f m.words k m.kind y t (head_bears f (b.lane k.0) m rest (i.bears k.0) r).0 i.main;
          count = let z = head_owed (b.lane k.0) m rest r in omega arith;
          service = s y t;
        }

-- EJECT and WRITE-EJECT
pub eject_returns : (v : ℕ → Status) (b : BlockState) (f : List ℕ) (k : LaneNo) (m : ReturnMessage) (rest : List ReturnMessage) → Inv v b f → k.0 < 8 →
    (b.lane k.0).returns ≡ m ∷ rest → is_answer m.kind ≡ false → (u : (ℕ → Status)) × Inv u (return_state k m rest b.service b) f
eject_returns v b f k m rest i h r a =
    take_keeps v b f k m rest b.service i h r (λ j. refl) (rw a (omega arith)) (λ y t. go b.service i.service y t)
  where
    go : (x : Option Service) → ServedWell v b.lane x → (y : Status) → Fits (v k.0) m.kind y →
        ServedWell (upd v k.0 y) (upd b.lane k.0 (take_seen rest (b.lane k.0))) x
    go None g y t = tt
    go (Some s) g y t = take_service v b.lane k.0 m rest y s s.awaited g r t

-- UPDATED, PURGED and GONE: one answer fewer is awaited
pub answer_returns : (v : ℕ → Status) (b : BlockState) (f : List ℕ) (k : LaneNo) (m : ReturnMessage) (rest : List ReturnMessage) (s : Service) → Inv v b f → k.0 < 8 →
    (b.lane k.0).returns ≡ m ∷ rest → is_answer m.kind ≡ true → b.service ≡ Some s → s.awaited ≢ 0 →
    (u : (ℕ → Status)) × Inv u (return_state k m rest (Some (lowered s)) b) f
answer_returns v b f k m rest s i h r a e n =
    let g = i.service in
    take_keeps v b f k m rest (Some (lowered s)) i h r (λ j. rw e) (rw (a, e) (omega (arith, n)))
    (λ y t. take_service v b.lane k.0 m rest y s (s.awaited - 1) (rw e at g) r t)
