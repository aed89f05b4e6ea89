-- Deliver keeps a store consistent; what completes has flat memory's value. Assumes nothing.
use Prim.Native.Nat.{ℕ, ◌<◌}
use mathlib.Core.Logic.{◌⊎◌, inl, inr, ◌≢◌}
use mathlib.Core.Path.{◌≡◌, refl, ap, ◌∙◌}
use mathlib.Core.List.{List, ◌∷◌}
use native.Mathlib.Omega.{arith}
use Rattle.words.specs.declared.LaneNo.{LaneNo}
use Rattle.words.specs.declared.BlockNo.{BlockNo}
use Rattle.words.specs.declared.WordNo.{WordNo}
use Rattle.words.specs.declared.Op.{Op}
use Rattle.words.specs.Units.{block_of}
use Rattle.queues.specs.Messages.{DownMessage}
use Rattle.queues.specs.declared.DownKind.{DownKind}
use Rattle.queues.specs.declared.DownKind.TheVariants.{Update, Purge, Grant, BareGrant}
use Rattle.queues.specs.Queues.{capacity, head_down}
use Rattle.lanes.specs.declared.Lane.{Lane}
use Rattle.lanes.specs.UseOrder.{Insertion}
use Rattle.store.specs.declared.Store.{Store}
use Rattle.store.specs.Stores.{lane_at}
use Rattle.machine.specs.Machine.Parts.{LaneStep}
use Rattle.machine.specs.Machine.Change.{lane_store, commit_lane}
use Rattle.machine.specs.Machine.Deliver.{deliver_lane, deliver_of}
use Rattle.machine.specs.Claims.Flat.{flat_value, flat_after, flat_block}
use Rattle.machine.proofs.Bounds.KeepsLane.{clash}
use Rattle.machine.proofs.Laws.Sets.{same?}
use Rattle.machine.proofs.Bounds.Sound.{sound}
use Rattle.machine.proofs.List.Owes.{Pending, upd, fed}
use Rattle.machine.proofs.Protocol.BlockState.{Status, Seen, BlockState, seen, block_no, project, words_done, value_done}
use Rattle.machine.proofs.Protocol.Invariant.{Inv}
use Rattle.machine.proofs.Protocol.Moves.{put_lane, update_seen, purge_seen, grant_seen}
use Rattle.machine.proofs.Projection.Flats.{flat_value_lem, flat_done, flat_other}
use Rattle.machine.proofs.Protocol.LaneMovesDeliver.{update_keeps, purge_keeps, grant_keeps, bare_keeps, grant_words, bare_words}
use Rattle.machine.proofs.Projection.SeenDeliver.{head_block, Taken, OrderCase, GrantCase, DeliverCase, Updates, Purges, Grants, BareGrants, Refuses, deliver_case}
use Rattle.machine.proofs.Store.Consistent.{Consistent, pending_of, pending_in, StaysConsistent, refused_consistent}
use Rattle.machine.proofs.Store.ConsistentLane.{lane_sized, lane_project, lane_unseen, lane_unique, lane_pending, lane_pending_same, pending_here}
use Rattle.machine.proofs.Rules.Rules.{put_back, deliver_rule}

-- a lane of which a block sees a down message has one
seen_filled : (c : ℕ) (a : BlockNo) (l : Lane) (m : DownMessage) (rest : List DownMessage) → (seen c a l).downs ≡ m ∷ rest → 0 < l.downs.len
unfolding seen
seen_filled c a l m rest e = go (same? l.downs.len 0)
  where
    go : (l.downs.len ≡ 0) ⊎ (l.downs.len ≢ 0) → 0 < l.downs.len
    go (inl q) = clash (cc (rw q at e))
    go (inr n) = omega (arith, n)

-- flat memory's words and value of the block that an operation is on
done_at : (f : List ℕ) (op : Op) (w : WordNo) (a : ℕ) → (block_of w).0 ≡ a → flat_block (flat_after f (fed op w)) a ≡ words_done op w (flat_block f a)
done_at f op w a e = rw (← e) (flat_done f op w)

value_at : (f : List ℕ) (op : Op) (w : WordNo) (a : ℕ) → (block_of w).0 ≡ a → value_done op w (flat_block f a) ≡ flat_value f (fed op w)
value_at f op w a e = rw (← e) (flat_value_lem f op w)

module _ (s : Store) (f : List ℕ) (i : Consistent s f) (k : LaneNo) (h : k.0 < s.shape.n) (r : LaneStep) where
  abbrev l : Lane
  l = lane_at s k.0

  abbrev x : BlockNo
  x = head_block l

  abbrev t : Store
  t = lane_store s k r

  inside : (y : DownKind) → Taken s.shape.c y l r → x.0 < s.shape.m
  inside y c = ((sound s i.sound).lane k.0 h).downs.inside 0 (seen_filled s.shape.c x l _ _ c.head)

  -- what holds of the head's block, and what the others do not see
  each_block : (y : DownKind) → Taken s.shape.c y l r → (g : List ℕ) → ((v : (ℕ → Status)) × Inv v (project t x.0) (flat_block g x.0)) →
      ((a : ℕ) → a ≢ x.0 → flat_block g a ≡ flat_block f a) → (a : ℕ) → a < s.shape.m → (v : (ℕ → Status)) × Inv v (project t a) (flat_block g a)
  each_block y c g here there a b = go (same? a x.0)
    where
      go : (a ≡ x.0) ⊎ (a ≢ x.0) → (v : (ℕ → Status)) × Inv v (project t a) (flat_block g a)
      go (inl e) = rw e here
      go (inr n) = rw (lane_unseen s f i k.0 h r.lane a (c.others (block_no a) n), there a n) (i.block a b)

  -- an order, answered
  order_consistent : (y : DownKind) (F : Status → BlockNo → List DownMessage → Seen → Seen) →
      ((v : ℕ → Status) (b : BlockState) (g : List ℕ) (j : ℕ) (a : BlockNo) (m : DownMessage) (rest : List DownMessage) → Inv v b g → (b.lane j).downs ≡ m ∷ rest → m.kind ≡ y →
      Inv v (put_lane j (F (b.lane j).line a rest (b.lane j)) b) g) →
      OrderCase s.shape.c y F l r → StaysConsistent s f (put_back s k r)
  order_consistent y F keeps c =
      let p = i.block x.0 (inside y c.taken) in
      record {
        flat = f;
        unique = lane_unique s f i k.0 h r.lane c.taken.unique;
        block = each_block y c.taken f (
          p.0,
          rw (lane_project s f i k.0 h r.lane (F (seen s.shape.c x l).line x c.taken.rest (seen s.shape.c x l)) x.0 c.here)
              (keeps p.0 (project s x.0) (flat_block f x.0) k.0 x (head_down l.downs) c.taken.rest p.1 c.taken.head c.taken.kind),
        )
            (λ a n. refl);
        completes = rw c.answer (lane_pending_same s f i k.0 h r.lane _ (ap pending_of c.waiting), refl);
      }

  -- a grant: the operation that its lane waits for completes, with the words ws, which are flat memory's
  grant_consistent : (y : DownKind) (ws : List ℕ) (c : GrantCase s.shape.c y ws l r) →
      ((v : ℕ → Status) → Inv v (project s x.0) (flat_block f x.0) →
      (ws ≡ flat_block f x.0) ×
      Inv v (put_lane k.0 (grant_seen c.operation ws c.taken.rest (seen s.shape.c x l)) (project s x.0)) (words_done c.operation.op c.operation.word (flat_block f x.0))) →
      StaysConsistent s f (put_back s k r)
  grant_consistent y ws c keeps =
      let o = c.operation in
      let p = i.block x.0 (inside y c.taken) in
      let q = keeps p.0 p.1 in
      record {
        flat = flat_after f (fed o.op o.word);
        unique = lane_unique s f i k.0 h r.lane c.taken.unique;
        block = each_block y c.taken (flat_after f (fed o.op o.word))
            (p.0, rw (lane_project s f i k.0 h r.lane (grant_seen o ws c.taken.rest (seen s.shape.c x l)) x.0 c.here, done_at f o.op o.word x.0 c.block) q.1)
            (λ a n. flat_other f o.op o.word a (λ e. n (e ∙ c.block)));
        completes = rw c.answer (
          o.op,
          o.word,
          pending_here s f i k.0 h ∙ ap pending_of c.served,
          ap (value_done o.op o.word) q.0 ∙ value_at f o.op o.word x.0 c.block,
          (lane_pending s f i k.0 h r.lane _ ∙ ap (λ (z : Pending). upd (pending_in s) k.0 z) (ap pending_of c.waiting), refl),
        );
      }

  -- the lane's part, by the message
  case_consistent : DeliverCase s.shape.c l r → StaysConsistent s f (commit_lane s k r)
  unfolding commit_lane
  case_consistent (Updates c) = rw c.answer (rw c.answer at (order_consistent Update update_seen update_keeps c))
  case_consistent (Purges c) = rw c.answer (rw c.answer at (order_consistent Purge purge_seen purge_keeps c))
  case_consistent (Grants e c) =
      rw c.answer
      (rw c.answer at (grant_consistent Grant (head_down l.downs).words c
      (λ v z. (
        grant_words v (project s x.0) (flat_block f x.0) k.0 (head_down l.downs) c.taken.rest z c.taken.head c.taken.kind,
        grant_keeps v (project s x.0) (flat_block f x.0) k.0 c.operation (head_down l.downs) c.taken.rest z c.taken.head c.taken.kind c.before,
      ))))
  case_consistent (BareGrants e c) =
      rw c.answer
      (rw c.answer at (grant_consistent BareGrant (seen s.shape.c x l).words c
      (λ v z. (
        bare_words v (project s x.0) (flat_block f x.0) k.0 (head_down l.downs) c.taken.rest z c.taken.head c.taken.kind,
        bare_keeps v (project s x.0) (flat_block f x.0) k.0 c.operation (head_down l.downs) c.taken.rest z c.taken.head c.taken.kind c.before,
      ))))
  case_consistent (Refuses c) = rw c.answer (refused_consistent s f c.reason i)

pub deliver_consistent : (ins : Insertion) (s : Store) (f : List ℕ) (k : LaneNo) → Consistent s f → StaysConsistent s f (deliver_of ins s k)
deliver_consistent ins s f k i =
    deliver_rule ins (StaysConsistent s f) s k (λ x. refused_consistent s f x i)
    (λ _ h. case_consistent s f i k h (deliver_lane capacity ins s.shape.c (lane_at s k.0))
    (deliver_case ins s.shape.c (lane_at s k.0) (lane_sized s f i k.0 h) (sound s i.sound).c_high (i.unique k.0) ((sound s i.sound).lane k.0 h).downs.short))
