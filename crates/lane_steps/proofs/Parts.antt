-- A lane's part as the code hands it on: what its refusal is when it is put back, and which step its part is. Assumes nothing.
use Rattle.std.proofs.Common.{◌≡◌, refl}
use Rattle.std.specs.Prelude.{Result, Ok, Err}
use Rattle.words.specs.declared.LaneNo.{LaneNo}
use Rattle.answers.specs.declared.Refusal.{Refusal}
use Rattle.store.specs.declared.Store.{Store}
use Rattle.machine.specs.declared.LaneAnswer.{LaneAnswer}
use Rattle.machine.specs.declared.LanePart.{LanePart}
use Rattle.machine.specs.Machine.Parts.{LaneStep}
use Rattle.machine.specs.Machine.Change.{refuse, part_of, step_of, commit_lane}

-- a refused part is a refused call
pub refused_part : (s : Store) (k : LaneNo) (r : LaneStep) (n : Refusal) → Err n ≡ part_of r → commit_lane s k r ≡ refuse n s
unfolding commit_lane
refused_part s k r n e = go r.answer refl
  where
    go : (a : Result LaneAnswer Refusal) → r.answer ≡ a → commit_lane s k r ≡ refuse n s
    go (Ok a) q = let f = rw q at e in absurd cc
    go (Err m) q = let f : ◌≡◌ {A = Result LanePart Refusal} (Err n) (Err m) = rw q at e in let g : n ≡ m = cc in rw (q, g)

-- a part that is not refused stands for its step
pub taken_part : (r : LaneStep) (p : LanePart) → Ok p ≡ part_of r → r ≡ step_of p
taken_part r p e = go r.answer refl
  where
    go : (a : Result LaneAnswer Refusal) → r.answer ≡ a → r ≡ step_of p
    go (Ok a) q =
        let f : ◌≡◌ {A = Result LanePart Refusal} (Ok p) (Ok (record { answer = a; lane = r.lane })) = rw q at e in
        let g : p ≡ record { answer = a; lane = r.lane } = cc in
        rw (g, ← q)
    go (Err m) q = let f = rw q at e in absurd cc
