-- A move of one lane keeps the protocol's invariant where the lane pays what it owes: the rest is the lanes that it leaves as they
-- were. Assumes nothing.
use Prim.Native.Nat.{ℕ, ◌+◌}
use mathlib.Core.Logic.{inl, inr, ◌≢◌}
use mathlib.Core.Path.{◌≡◌, refl, sym, ap, ◌∙◌, subst, fun_ext}
use mathlib.Core.Bool.{true, false}
use mathlib.Core.List.{List, [], ◌∷◌}
use lib.Seq.{set-get_or}
use borrow.Author.Tests.{eq-eqb, ne_eqb}
use native.Mathlib.Omega.{arith}
use Rattle.words.specs.declared.WordNo.{WordNo}
use Rattle.words.specs.declared.Op.{Op}
use Rattle.words.specs.Folds.{sum_to}
use Rattle.words.specs.Units.{place_of}
use Rattle.words.specs.Operations.{is_load}
use Rattle.queues.specs.Messages.{DownMessage}
use Rattle.store.specs.declared.Service.{Service}
use Rattle.machine.proofs.Bounds.KeepsLane.{clash}
use Rattle.machine.proofs.Laws.Tests.{on}
use Rattle.machine.proofs.Laws.Sets.{same?}
use Rattle.machine.proofs.List.Owes.{upd}
use Rattle.machine.proofs.Laws.Updates.{upd_cases}
use Rattle.machine.proofs.Protocol.BlockState.{Status, Modified, held, dirty, Seen, BlockState, words_done}
use Rattle.machine.proofs.Protocol.Invariant.{Chain, owed, grant_count, serving, served_count, WaitFits, ReturnsBear, Bears, some_update, some_updated, ServiceFits, ServedWell, Inv}
use Rattle.machine.proofs.Protocol.Moves.{put_lane}
use Rattle.machine.proofs.Protocol.Chains.{idle, absent_bears}
use Rattle.std.specs.Prelude.{Option, Some, None}

-- the lane in service rests: what the service reads of it is as it was
pub record Rests (l m : Seen) : Type 0 where
  pub returns : m.returns ≡ l.returns
  pub downs : m.downs ≡ l.downs
  pub line : held m.line ≡ held l.line
  pub waiting : m.waiting ≡ l.waiting

-- what the lanes but k and main memory owe where flat memory's words are g
pub record Elsewhere (v : ℕ → Status) (b : BlockState) (g : List ℕ) (k : ℕ) : Type 0 where
  pub returns : ReturnsBear g (b.lane k).returns
  pub others : (j : ℕ) → j ≢ k → Bears g (b.lane j)
  pub main : ((j : ℕ) → dirty (v j) ≡ false) → b.block.words ≡ g

-- what a move to l of lane k owes
pub record LaneOwes (v : ℕ → Status) (b : BlockState) (g : List ℕ) (k : ℕ) (l : Seen) : Type 0 where
  pub chain : Chain (v k) l
  pub grant : grant_count l.downs + serving b.service k ≡ served_count l.waiting
  pub wait : WaitFits l.line l.waiting
  pub bears : Bears g l
  pub elsewhere : Elsewhere v b g k
  pub owes : owed l ≡ owed (b.lane k)
  pub rests : serving b.service k ≡ 1 → Rests (b.lane k) l
  pub no_update : some_update (b.lane k).downs ≡ false → some_update l.downs ≡ false
  pub no_updated : some_update (b.lane k).downs ≡ false → some_updated (b.lane k).returns ≡ false → some_updated l.returns ≡ false

module _ (v : ℕ → Status) (b : BlockState) (g : List ℕ) (k : ℕ) (l : Seen) (o : LaneOwes v b g k l) where
  -- each lane owes what it owed
  owed_same : (j : ℕ) → owed (upd b.lane k l j) ≡ owed (b.lane j)
  owed_same = upd_cases (λ j m. owed m ≡ owed (b.lane j)) b.lane k l o.owes (λ j n. refl)

  -- the service fits the lanes after the move
  service_keeps : (s : Service) → b.service ≡ Some s → ServiceFits v b.lane s → ServiceFits v (upd b.lane k l) s
  service_keeps s e h =
      record {
        below = h.below;
        returns = r.returns ∙ h.returns;
        downs = r.downs ∙ h.downs;
        bare = h.bare ∙ sym r.line;
        operation = h.operation;
        waits = r.waiting ∙ h.waits;
        command = h.command;
        cover = λ j n z. h.cover j n (sym (owed_same j) ∙ z);
        no_update = λ x. upd_cases (λ j m. some_update m.downs ≡ false) b.lane k l (o.no_update (h.no_update x k)) (λ j n. h.no_update x j);
        no_updated = λ x. upd_cases (λ j m. some_updated m.returns ≡ false) b.lane k l (o.no_updated (h.no_update x k) (h.no_updated x k)) (λ j n. h.no_updated x j);
      }
    where
      here : k ≡ s.lane.0 → serving b.service k ≡ 1
      here q = rw (e, eq-eqb s.lane.0 k (sym q))

      r : Rests (b.lane s.lane.0) (upd b.lane k l s.lane.0)
      r = upd_cases (λ j m. j ≡ s.lane.0 → Rests (b.lane j) m) b.lane k l (λ q. o.rests (here q))
          (λ j n q. record { returns = refl; downs = refl; line = refl; waiting = refl }) s.lane.0 refl

  -- the move keeps the invariant
  pub lane_keeps : (f : List ℕ) → Inv v b f → Inv v (put_lane k l b) g
  lane_keeps f i =
      record {
        directory = i.directory;
        chain = upd_cases (λ j m. Chain (v j) m) b.lane k l o.chain (λ j n. i.chain j);
        grant = upd_cases (λ j m. grant_count m.downs + serving b.service j ≡ served_count m.waiting) b.lane k l o.grant (λ j n. i.grant j);
        wait = upd_cases (λ j m. WaitFits m.line m.waiting) b.lane k l o.wait (λ j n. i.wait j);
        sole = i.sole;
        bears = upd_cases (λ j m. Bears g m) b.lane k l o.bears o.elsewhere.others;
        main = o.elsewhere.main;
        count = ap (λ (h : ℕ → ℕ). sum_to h 8) (fun_ext owed_same) ∙ i.count;
        far = λ j h. owed_same j ∙ i.far j h;
        service = go b.service refl i.service;
      }
    where
      go : (x : Option Service) → b.service ≡ x → ServedWell v b.lane x → ServedWell v (upd b.lane k l) x
      go None e h = tt
      go (Some s) e h = service_keeps s e h

-- load changes no word
pub load_done : (op : Op) (w : WordNo) (f : List ℕ) → is_load op ≡ true → words_done op w f ≡ f
load_done Op.Load w f e = set-get_or f (place_of w) 0
load_done (Op.Store x) w f e = clash cc
load_done (Op.Exchange x) w f e = clash cc
load_done (Op.Add x) w f e = clash cc

module _ (v : ℕ → Status) (b : BlockState) (f : List ℕ) (k : ℕ) (i : Inv v b f) where
  -- flat memory stays
  pub same_elsewhere : Elsewhere v b f k
  same_elsewhere = record { returns = (i.bears k).returns; others = λ j n. i.bears j; main = i.main }

  -- the sole writer: nothing but its line bears the block's words
  pub sole_elsewhere : (g : List ℕ) → (i.chain k).meet ≡ Modified → Elsewhere v b g k
  sole_elsewhere g e =
      record {
        returns = rw h.1 tt;
        others = λ j n. absent_bears g (v j) (b.lane j) (i.chain j) (i.sole k j h.0 n);
        main = λ c. clash (cc (c k, ap dirty h.0));
      }
    where
      h : (v k ≡ Modified) × ((b.lane k).returns ≡ [])
      h = idle (v k) (i.chain k).meet (b.lane k).returns (i.chain k).sent e

  -- an operation is done on the lane: load, or the lane is the sole writer
  pub done_elsewhere : (op : Op) (w : WordNo) → (is_load op ≡ false → (i.chain k).meet ≡ Modified) → Elsewhere v b (words_done op w f) k
  done_elsewhere op w h =
      on (is_load op) (λ e. subst (λ (g : List ℕ). Elsewhere v b g k) (sym (load_done op w f e)) same_elsewhere)
      (λ e. sole_elsewhere (words_done op w f) (h e))

  -- a lane whose operation is not served has no grant under way and is not in service
  pub unserved_rests : served_count (b.lane k).waiting ≡ 0 → (grant_count (b.lane k).downs ≡ 0) × (serving b.service k ≡ 0)
  unserved_rests e = let h = i.grant k in (omega arith, omega arith)

  -- nor is a lane with a message under way to it
  pub busy_rests : (m : DownMessage) (rest : List DownMessage) → (b.lane k).downs ≡ m ∷ rest → serving b.service k ≡ 0
  busy_rests m rest e = go b.service i.service
    where
      go : (x : Option Service) → ServedWell v b.lane x → serving x k ≡ 0
      go None h = refl
      go (Some s) h = elim (same? s.lane.0 k) [ inl q ↦ clash (cc (h.downs, e, q)) | inr n ↦ rw (ne_eqb s.lane.0 k n) ]
