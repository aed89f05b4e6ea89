-- How settle's code gives what 01 says of it, and what its parts compute. Assumes nothing.
use Rattle.std.specs.Prelude.{◌+◌, ◌-◌, ◌≤◌, ◌≡◌, List, ◌++◌, length, set, replicate, Result, Ok, Err}
use Rattle.answers.specs.declared.Answer.{Answer}
use Rattle.answers.specs.declared.Answer.TheVariants.{Opened, Done, Wait, Step}
use Rattle.answers.specs.declared.Completion.{Completion}
use Rattle.answers.specs.declared.Refusal.{Refusal}
use Rattle.answers.specs.Completions.{completion_of}
use Rattle.store.specs.declared.Store.{Store}
use Rattle.machine.specs.Machine.Settle.{bound_of, exact_of, Settlement}
use Rattle.store_settle.specs.declared.Completions.{Completions}
use Rattle.store_settle.specs.declared.SettleOutcome.{SettleOutcome}
use Rattle.machine.specs.declared.SettleCounts.{SettleCounts}

-- the array of 8 completions: the completions in order, then that of lane 0 with value 0 and place 0 where there is none
abbrev pub padded : List Completion → List Completion
padded cs = cs ++ replicate (8 - length cs) (completion_of (record { 0 = 0 }) 0 0)

-- the completions in order and their number
abbrev pub array_of : List Completion → Completions
array_of cs = record { len = length cs; at = padded cs }

-- what a settle gives, the completions in an array
abbrev pub outcome_of : Settlement → SettleOutcome
outcome_of r = record { answer = r.answer; completions = array_of r.completions; store = r.store }

-- the count of steps is exact, so at most the bound, both of the store before; a refusal has none
abbrev pub Counted : Store → Result SettleCounts Refusal → Type 0
Counted s (Ok counts) = (counts.steps ≡ exact_of s counts.orders) × (counts.steps ≤ bound_of s)
Counted s (Err r) = Unit {0}

-- the completion of an answer, if it has one, behind the others
abbrev pub listed_of : Completions → Result Answer Refusal → Completions
listed_of d (Ok Opened) = d
listed_of d (Ok (Done x)) = record { len = d.len + 1; at = set d.at d.len x }
listed_of d (Ok Wait) = d
listed_of d (Ok Step) = d
listed_of d (Err r) = d
