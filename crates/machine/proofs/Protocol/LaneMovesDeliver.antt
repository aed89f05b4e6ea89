-- The moves of deliver keep the protocol's invariant: an order taken, a grant taken; and a grant meets flat memory's words. Assumes
-- nothing.
use Prim.Native.Nat.{ℕ, ◌+◌}
use mathlib.Core.Path.{◌≡◌, refl, sym, ap, ◌∙◌, subst}
use mathlib.Core.Bool.{Bool, true, false}
use mathlib.Core.List.{List, [], ◌∷◌}
use native.Mathlib.Omega.{arith}
use Rattle.words.specs.declared.BlockNo.{BlockNo}
use Rattle.words.specs.Operations.{is_load}
use Rattle.words.proofs.Folds.{or_left, or_right}
use Rattle.queues.specs.Messages.{ReturnMessage}
use Rattle.queues.specs.declared.ReturnKind.{ReturnKind}
use Rattle.queues.specs.declared.ReturnKind.TheVariants.{Updated, Purged, PurgedWords, Gone}
use Rattle.queues.specs.Messages.{DownMessage}
use Rattle.queues.specs.declared.DownKind.{DownKind}
use Rattle.queues.specs.declared.DownKind.TheVariants.{Update, Purge, Grant, BareGrant}
use Rattle.queues.specs.Messages.{bare_message, words_message}
use Rattle.lanes.specs.declared.Command.{Command}
use Rattle.lanes.specs.declared.Command.TheVariants.{ReadShared, ReadExclusive, Exclude}
use Rattle.lanes.specs.declared.Operation.{Operation}
use Rattle.lanes.specs.declared.Waiting.{Waiting}
use Rattle.lanes.specs.declared.Waiting.TheVariants.{Idle, Unserved, Served}
use Rattle.machine.specs.Machine.Return.{is_answer}
use Rattle.machine.specs.Machine.Settle.{is_order}
use Rattle.machine.proofs.Bounds.KeepsLane.{clash}
use Rattle.machine.proofs.Protocol.BlockState.{Status, Invalid, Shared, Modified, held, dirty, BlockState, words_done}
use Rattle.machine.proofs.Protocol.Invariant.{Fits, filled, loads, Rest, DueHead, Due, owed, order_count, grant_count, CommandFits, WaitFits, bearing, is_grant, DownsBear, is_update, some_update, is_updated, Inv}
use Rattle.machine.proofs.Protocol.Moves.{put_lane, answer_seen, update_seen, purge_seen, grant_seen}
use Rattle.machine.proofs.Protocol.Chains.{fits_clean, fits_invalid, join, rest_meets, rest_grants, rest_due, rest_bears, answers_join, bears_join, updated_join}
use Rattle.machine.proofs.Protocol.LaneMoves.{LaneOwes, lane_keeps, same_elsewhere, done_elsewhere, busy_rests}

-- an operation that fits a line fits it when an answer has taken the line further
command_fits : (x y : Status) (c : Command) (load : Bool) → (x ≡ Invalid → y ≡ Invalid) → dirty y ≡ false → CommandFits x c load → CommandFits y c load
command_fits x y ReadShared load h e f = (h f.0, f.1)
command_fits x y ReadExclusive load h e f = (h f.0, f.1)
command_fits x y Exclude load h e f = (e, f.1)

answer_waits : (x : Status) (m : ReturnKind) (y : Status) (w : Waiting) → Fits x m y → WaitFits x w → WaitFits y w
answer_waits x m y Idle f h = tt
answer_waits x m y (Unserved o) f h = command_fits x y o.command (is_load o.op) (λ e. (fits_invalid x m y f e).1) (fits_clean x m y f) h
answer_waits x m y (Served o) f h = command_fits x y o.command (is_load o.op) (λ e. (fits_invalid x m y f e).1) (fits_clean x m y f) h

-- an order is alone, and the line is where the chain meets
order_due : (w : Waiting) (l : Status) (n : DownKind) (q : List DownMessage) (x : Status) → is_order n ≡ true → DueHead w l n q x → (q ≡ []) × (l ≡ x)
order_due w l Update q x o d = d
order_due w l Purge q x o d = d
order_due w l Grant q x o d = clash cc
order_due w l BareGrant q x o d = clash cc

-- what an answer r to an order n owes: the line x is then y, with the words us
record AnswerFits (f : List ℕ) (n : DownKind) (x y : Status) (us : List ℕ) (r : ReturnMessage) : Type 0 where
  fits : Fits x r.kind y
  answer : is_answer r.kind ≡ true
  words : bearing r.kind ≡ true → r.words ≡ f
  line : held y ≡ true → us ≡ f
  updated : is_update n ≡ false → is_updated r.kind ≡ false

module _ (v : ℕ → Status) (b : BlockState) (f : List ℕ) (k : ℕ) where
  -- what is due where a message of kind n is at the head
  pub head_due : (n : DownKind) (m : DownMessage) (rest : List DownMessage) (i : Inv v b f) → (b.lane k).downs ≡ m ∷ rest → m.kind ≡ n →
      DueHead (b.lane k).waiting (b.lane k).line n rest (i.chain k).meet
  head_due n m rest i e q =
      subst (λ (t : DownKind). DueHead (b.lane k).waiting (b.lane k).line t rest (i.chain k).meet) q
      (subst (λ (d : List DownMessage). Due (b.lane k).waiting (b.lane k).line d (i.chain k).meet) e (i.chain k).due)

  -- an order taken, whatever it is
  order_keeps : (m : DownMessage) (rest : List DownMessage) (x : Status) (ws : List ℕ) (r : ReturnMessage) → Inv v b f → (b.lane k).downs ≡ m ∷ rest →
      is_order m.kind ≡ true → AnswerFits f m.kind (b.lane k).line x ws r → Inv v (put_lane k (answer_seen x ws r rest (b.lane k)) b) f
  unfolding owed
  order_keeps m rest x ws r i e o a = lane_keeps v b f k (answer_seen x ws r rest (b.lane k)) owes f i
    where
      d : (rest ≡ []) × ((b.lane k).line ≡ (i.chain k).meet)
      d = order_due (b.lane k).waiting (b.lane k).line m.kind rest (i.chain k).meet o (head_due m.kind m rest i e refl)

      grants : grant_count (b.lane k).downs ≡ grant_count rest
      grants = rw (e, o) (omega arith)

      orders : order_count (b.lane k).downs ≡ 1 + order_count rest
      orders = rw (e, o)

      owes : LaneOwes v b f k (answer_seen x ws r rest (b.lane k))
      owes =
          record {
            chain = record {
              meet = x;
              sent = join (v k) (i.chain k).meet x (b.lane k).returns r (i.chain k).sent (subst (λ (y : Status). Fits y r.kind x) d.1 a.fits);
              due = rw d.0;
            };
            grant = rw (sym grants) (i.grant k);
            wait = answer_waits (b.lane k).line r.kind x (b.lane k).waiting a.fits (i.wait k);
            bears = record { line = a.line; returns = bears_join f (b.lane k).returns r (i.bears k).returns a.words; downs = rw d.0 tt };
            elsewhere = same_elsewhere v b f k i;
            owes = rw (answers_join (b.lane k).returns r, a.answer, orders) (omega arith);
            rests = λ s. clash (cc (busy_rests v b f k i m rest e, s));
            no_update = λ q. rw d.0;
            no_updated = λ q s. updated_join (b.lane k).returns r s (a.updated (or_left (is_update m.kind) (some_update rest) (rw e at q)));
          }

  -- GONE, to any order
  gone_fits : (n : DownKind) (a : BlockNo) (ws : List ℕ) → (b.lane k).line ≡ Invalid → AnswerFits f n (b.lane k).line Invalid ws (bare_message Gone a)
  gone_fits n a ws e = record { fits = (e, refl); answer = refl; words = λ z. clash cc; line = λ z. clash cc; updated = λ z. refl }

  -- UPDATE taken
  pub update_keeps : (a : BlockNo) (m : DownMessage) (rest : List DownMessage) → Inv v b f → (b.lane k).downs ≡ m ∷ rest → m.kind ≡ Update →
      Inv v (put_lane k (update_seen (b.lane k).line a rest (b.lane k)) b) f
  update_keeps a m rest i e q = go (b.lane k).line refl
    where
      fits : held (b.lane k).line ≡ true → AnswerFits f m.kind (b.lane k).line Shared (b.lane k).words (words_message Updated a (b.lane k).words)
      fits h =
          record { fits = (h, refl); answer = refl; words = λ z. (i.bears k).line h; line = λ z. (i.bears k).line h; updated = λ z. clash (cc (z, ap is_update q)) }

      go : (x : Status) → (b.lane k).line ≡ x → Inv v (put_lane k (update_seen x a rest (b.lane k)) b) f
      go Invalid h = order_keeps m rest Invalid (b.lane k).words (bare_message Gone a) i e (ap is_order q) (gone_fits m.kind a (b.lane k).words h)
      go Shared h = order_keeps m rest Shared (b.lane k).words (words_message Updated a (b.lane k).words) i e (ap is_order q) (fits (ap held h))
      go Modified h = order_keeps m rest Shared (b.lane k).words (words_message Updated a (b.lane k).words) i e (ap is_order q) (fits (ap held h))

  -- PURGE taken
  pub purge_keeps : (a : BlockNo) (m : DownMessage) (rest : List DownMessage) → Inv v b f → (b.lane k).downs ≡ m ∷ rest → m.kind ≡ Purge →
      Inv v (put_lane k (purge_seen (b.lane k).line a rest (b.lane k)) b) f
  purge_keeps a m rest i e q = go (b.lane k).line refl
    where
      go : (x : Status) → (b.lane k).line ≡ x → Inv v (put_lane k (purge_seen x a rest (b.lane k)) b) f
      go Invalid h = order_keeps m rest Invalid (b.lane k).words (bare_message Gone a) i e (ap is_order q) (gone_fits m.kind a (b.lane k).words h)
      go Shared h =
          order_keeps m rest Invalid [] (bare_message Purged a) i e (ap is_order q)
          (record { fits = (h, refl); answer = refl; words = λ z. clash cc; line = λ z. clash cc; updated = λ z. refl })
      go Modified h =
          order_keeps m rest Invalid [] (words_message PurgedWords a (b.lane k).words) i e (ap is_order q)
          (record { fits = (h, refl); answer = refl; words = λ z. (i.bears k).line (ap held h); line = λ z. clash cc; updated = λ z. refl })

  -- a grant taken, with flat memory's words in the line
  fill_keeps : (o : Operation) (m : DownMessage) (rest : List DownMessage) (ws : List ℕ) (i : Inv v b f) → (b.lane k).downs ≡ m ∷ rest →
      is_order m.kind ≡ false → Rest (filled (Served o)) rest (i.chain k).meet → ws ≡ f →
      Inv v (put_lane k (grant_seen o ws rest (b.lane k)) b) (words_done o.op o.word f)
  unfolding owed
  fill_keeps o m rest ws i e q r h = lane_keeps v b (words_done o.op o.word f) k (grant_seen o ws rest (b.lane k)) owes f i
    where
      orders : order_count (b.lane k).downs ≡ order_count rest
      orders = rw (e, q) (omega arith)

      writes : is_load o.op ≡ false → (i.chain k).meet ≡ Modified
      writes n = sym (rest_meets (filled (Served o)) rest (i.chain k).meet r) ∙ rw n

      owes : LaneOwes v b (words_done o.op o.word f) k (grant_seen o ws rest (b.lane k))
      owes =
          let s = busy_rests v b f k i m rest e in
          let w = done_elsewhere v b f k i o.op o.word writes in
          record {
            chain = record { meet = (i.chain k).meet; sent = (i.chain k).sent; due = rest_due Idle (filled (Served o)) rest (i.chain k).meet r };
            grant = rw (rest_grants (filled (Served o)) rest (i.chain k).meet r, s);
            wait = tt;
            bears = record {
              line = λ z. ap (words_done o.op o.word) h;
              returns = w.returns;
              downs = rest_bears (words_done o.op o.word f) (filled (Served o)) rest (i.chain k).meet r;
            };
            elsewhere = w;
            owes = rw orders;
            rests = λ z. clash (cc (s, z));
            no_update = λ z. or_right (is_update m.kind) (some_update rest) (rw e at z);
            no_updated = λ z u. u;
          }

  -- the words of a grant are flat memory's
  pub grant_words : (m : DownMessage) (rest : List DownMessage) → Inv v b f → (b.lane k).downs ≡ m ∷ rest → m.kind ≡ Grant → m.words ≡ f
  grant_words m rest i e q = (subst (λ (d : List DownMessage). DownsBear f d) e (i.bears k).downs).0 (ap is_grant q)

  -- a bare grant meets a copy, whose words are flat memory's
  pub bare_held : (m : DownMessage) (rest : List DownMessage) → Inv v b f → (b.lane k).downs ≡ m ∷ rest → m.kind ≡ BareGrant → held (b.lane k).line ≡ true
  bare_held m rest i e q = ap held (head_due BareGrant m rest i e q).0

  pub bare_words : (m : DownMessage) (rest : List DownMessage) → Inv v b f → (b.lane k).downs ≡ m ∷ rest → m.kind ≡ BareGrant → (b.lane k).words ≡ f
  bare_words m rest i e q = (i.bears k).line (bare_held m rest i e q)

  -- a grant with words taken, and a bare one
  pub grant_keeps : (o : Operation) (m : DownMessage) (rest : List DownMessage) → Inv v b f → (b.lane k).downs ≡ m ∷ rest → m.kind ≡ Grant → (b.lane k).waiting ≡ Served o →
      Inv v (put_lane k (grant_seen o m.words rest (b.lane k)) b) (words_done o.op o.word f)
  grant_keeps o m rest i e q u = fill_keeps o m rest m.words i e (ap is_order q) d.1 (grant_words m rest i e q)
    where
      d : DueHead (Served o) (b.lane k).line Grant rest (i.chain k).meet
      d = subst (λ (w : Waiting). DueHead w (b.lane k).line Grant rest (i.chain k).meet) u (head_due Grant m rest i e q)

  pub bare_keeps : (o : Operation) (m : DownMessage) (rest : List DownMessage) → Inv v b f → (b.lane k).downs ≡ m ∷ rest → m.kind ≡ BareGrant → (b.lane k).waiting ≡ Served o →
      Inv v (put_lane k (grant_seen o (b.lane k).words rest (b.lane k)) b) (words_done o.op o.word f)
  bare_keeps o m rest i e q u = fill_keeps o m rest (b.lane k).words i e (ap is_order q) r (bare_words m rest i e q)
    where
      d : DueHead (b.lane k).waiting (b.lane k).line BareGrant rest (i.chain k).meet
      d = head_due BareGrant m rest i e q

      r : Rest (filled (Served o)) rest (i.chain k).meet
      r = rw (sym (ap loads u) ∙ d.1) d.2
