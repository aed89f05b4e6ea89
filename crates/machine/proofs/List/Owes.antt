-- What a call owes to demand 3, said of the operations that wait and of flat memory alone: nothing of the machine is in it. The
-- outer induction (Outer.antt) asks for no more, so another machine needs only to pay this. Assumes nothing.
use Prim.Native.Nat.{ℕ}
use mathlib.Core.Path.{◌≡◌}
use mathlib.Core.Bool.{cond}
use mathlib.Core.List.{List, [], ◌∷◌}
use lib.Dec.{eqb}
use Rattle.words.specs.declared.LaneNo.{LaneNo}
use Rattle.words.specs.declared.WordNo.{WordNo}
use Rattle.words.specs.declared.Op.{Op}
use Rattle.answers.specs.declared.Answer.{Answer}
use Rattle.answers.specs.declared.Answer.TheVariants.{Opened, Done, Wait, Step}
use Rattle.answers.specs.declared.Completion.{Completion}
use Rattle.machine.specs.Machine.Calls.{Call, Begin, Serve, Return, Deliver, Settle, Reply, Answers, SettledWith, Entry, completions_of}
use Rattle.machine.specs.Claims.Attribution.{Begun, begun_at}
use Rattle.machine.specs.Claims.Flat.{flat_value, flat_after}
use Rattle.std.specs.Prelude.{Result, Ok, Err}
use Rattle.answers.specs.declared.Refusal.{Refusal}

-- what a lane waits for
pub data Pending : Type 0 where
  Rests : Pending
  StillWaits : Op → WordNo → Pending

-- f with x at k
abbrev pub upd : {A : Type 0} → (ℕ → A) → ℕ → A → ℕ → A
upd f k x j = cond (eqb j k) x (f j)

-- the operation as flat memory takes it, which looks at neither index nor lane
abbrev pub fed : Op → WordNo → Begun
fed op w = begun_at 0 (record { 0 = 0 }) op w

-- nothing waits and flat memory is as it was
abbrev pub Unchanged : (ℕ → Pending) → List ℕ → (ℕ → Pending) → List ℕ → Type 0
Unchanged p f q g = (q ≡ p) × (g ≡ f)

-- completions one after another: each is of the operation that its lane waits for, and has flat memory's value
abbrev pub Completes : (ℕ → Pending) → List ℕ → List Completion → (ℕ → Pending) → List ℕ → Type 0
Completes p f [] q g = Unchanged p f q g
Completes p f (x ∷ xs) q g =
    (op : Op) × (w : WordNo) × (p x.lane.0 ≡ StillWaits op w) × (x.value ≡ flat_value f (fed op w)) ×
    Completes (upd p x.lane.0 Rests) (flat_after f (fed op w)) xs q g

-- a begin call, by its answer
abbrev pub BeginOwes : (ℕ → Pending) → List ℕ → LaneNo → Op → WordNo → Result Answer Refusal → (ℕ → Pending) → List ℕ → Type 0
BeginOwes p f k op w (Ok Opened) q g = ⊥
BeginOwes p f k op w (Ok (Done x)) q g = (x.lane ≡ k) × (x.value ≡ flat_value f (fed op w)) × (q ≡ p) × (g ≡ flat_after f (fed op w))
BeginOwes p f k op w (Ok Wait) q g = (p k.0 ≡ Rests) × (q ≡ upd p k.0 (StillWaits op w)) × (g ≡ f)
BeginOwes p f k op w (Ok Step) q g = ⊥
BeginOwes p f k op w (Err r) q g = Unchanged p f q g

-- what a call with its answer owes: p and f are before it, q and g after it
abbrev pub Owes : (ℕ → Pending) → List ℕ → Call → Reply → (ℕ → Pending) → List ℕ → Type 0
Owes p f (Begin k op w) (Answers a) q g = BeginOwes p f k op w a q g
Owes p f (Begin k op w) (SettledWith a xs) q g = ⊥
Owes p f (Serve k) r q g = Completes p f (completions_of r) q g
Owes p f (Return k) r q g = Completes p f (completions_of r) q g
Owes p f (Deliver k) r q g = Completes p f (completions_of r) q g
Owes p f Settle r q g = Completes p f (completions_of r) q g

-- a list of calls with their answers, each paying what it owes
abbrev pub Paid : (ℕ → Pending) → List ℕ → List Entry → (ℕ → Pending) → List ℕ → Type 0
Paid p f [] q g = Unchanged p f q g
Paid p f (e ∷ es) q g =
    (p₁ : (ℕ → Pending)) × (f₁ : List ℕ) × Owes p f e.call e.reply p₁ f₁ × Paid p₁ f₁ es q g

-- no lane waits
abbrev pub none_pending : ℕ → Pending
none_pending k = Rests
