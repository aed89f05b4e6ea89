-- What the invariant of a block says where nothing is under way, and the invariant of a blank block. Assumes nothing.
use Prim.Native.Nat.{ℕ}
use mathlib.Core.Path.{◌≡◌, refl, sym, ap, ◌∙◌}
use mathlib.Core.Bool.{false}
use mathlib.Core.List.{List, []}
use lib.ListN.{length, get_or}
use Rattle.lanes.specs.declared.Waiting.TheVariants.{Idle}
use Rattle.store.specs.Control.{awaited_of}
use Rattle.machine.proofs.Bounds.KeepsLane.{clash}
use Rattle.machine.proofs.Laws.Sums.{zero_sum}
use Rattle.machine.proofs.Protocol.BlockState.{Status, Invalid, held, Seen, BlockState}
use Rattle.machine.proofs.Protocol.Invariant.{Chain, Bears, owed, Inv}
use Rattle.machine.proofs.Protocol.Directories.{blank_directory}
use Rattle.std.specs.Prelude.{None}

-- two empty queues: the view is the line
pub rest_chain : (v : Status) (l : Seen) → Chain v l → l.returns ≡ [] → l.downs ≡ [] → v ≡ l.line
rest_chain v l c r d = let s = c.sent in let t = c.due in (rw r at s) ∙ sym (rw d at t)

pub quiet_view : (v : ℕ → Status) (b : BlockState) (f : List ℕ) → Inv v b f → (k : ℕ) → (b.lane k).returns ≡ [] → (b.lane k).downs ≡ [] → v k ≡ (b.lane k).line
quiet_view v b f i k r d = rest_chain (v k) (b.lane k) (i.chain k) r d

-- a lane that has nothing of the block
pub record Blank (l : Seen) : Type 0 where
  pub line : l.line ≡ Invalid
  pub returns : l.returns ≡ []
  pub downs : l.downs ≡ []
  pub waiting : l.waiting ≡ Idle

blank_chain : (l : Seen) → Blank l → Chain Invalid l
blank_chain l h = record { meet = Invalid; sent = rw h.returns refl; due = rw h.downs h.line }

blank_bears : (f : List ℕ) (l : Seen) → Blank l → Bears f l
blank_bears f l h = record { line = λ e. clash (cc (ap held h.line)); returns = rw h.returns tt; downs = rw h.downs tt }

blank_owed : (l : Seen) → Blank l → owed l ≡ 0
unfolding owed
blank_owed l h = rw (h.returns, h.downs)

-- the opening
pub blank_inv : (b : BlockState) (f : List ℕ) → ((k : ℕ) → Blank (b.lane k)) → length b.block.present ≡ 8 →
    ((k : ℕ) → get_or b.block.present k false ≡ false) → b.block.modified ≡ false → b.block.words ≡ f → b.service ≡ None →
    Inv (λ k. Invalid) b f
blank_inv b f h l p m w s =
    record {
      directory = blank_directory b.block l p m;
      chain = λ k. blank_chain (b.lane k) (h k);
      grant = λ k. rw ((h k).downs, (h k).waiting, s);
      wait = λ k. rw (h k).waiting tt;
      sole = λ k j e. clash (cc);
      bears = λ k. blank_bears f (b.lane k) (h k);
      main = λ _. w;
      count = zero_sum (λ k. owed (b.lane k)) 8 (λ j _. blank_owed (b.lane j) (h j)) ∙ sym (ap awaited_of s);
      far = λ j _. blank_owed (b.lane j) (h j);
      service = rw s tt;
    }
