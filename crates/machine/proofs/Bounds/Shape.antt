-- What a shape in range bounds, and back. Assumes nothing.
use Prim.Native.Nat.{◌≤◌}
use mathlib.Core.Path.{◌≡◌}
use mathlib.Core.Bool.{false}
use borrow.Author.Tests.{ltb-false, le-ltb}
use Rattle.words.specs.declared.Shape.{Shape}
use Rattle.words.proofs.Folds.{all_false}
use Rattle.store.specs.Opening.{bad_shape, bad_limit}
use Rattle.machine.proofs.Laws.Tests.{none_of}

pub shape_bounds : (shape : Shape) → bad_shape shape ≡ false → (2 ≤ shape.n) × (shape.n ≤ 8) × (1 ≤ shape.c) × (shape.c ≤ 8) × (1 ≤ shape.m) × (shape.m ≤ 64)
unfolding bad_shape
shape_bounds shape e =
    let a = all_false _ e in (
      ltb-false _ _ a.0,
      ltb-false _ _ a.1.0,
      ltb-false _ _ a.1.1.0,
      ltb-false _ _ a.1.1.1.0,
      ltb-false _ _ a.1.1.1.1.0,
      ltb-false _ _ a.1.1.1.1.1.0,
    )

pub bounds_shape : (shape : Shape) → 2 ≤ shape.n → shape.n ≤ 8 → 1 ≤ shape.c → shape.c ≤ 8 → 1 ≤ shape.m → shape.m ≤ 64 → bad_shape shape ≡ false
unfolding bad_shape
bounds_shape shape n₀ n₁ c₀ c₁ m₀ m₁ =
    none_of _ (le-ltb _ _ n₀, (le-ltb _ _ n₁, (le-ltb _ _ c₀, (le-ltb _ _ c₁, (le-ltb _ _ m₀, (le-ltb _ _ m₁, tt))))))

-- .. and of the limit
pub limit_bounds : (shape : Shape) → bad_limit shape ≡ false → (1 ≤ shape.limit) × (shape.limit ≤ 8)
limit_bounds shape e = let a = all_false _ e in (ltb-false _ _ a.0, ltb-false _ _ a.1.0)

pub bounds_limit : (shape : Shape) → 1 ≤ shape.limit → shape.limit ≤ 8 → bad_limit shape ≡ false
bounds_limit shape l₀ l₁ = none_of _ (le-ltb _ _ l₀, (le-ltb _ _ l₁, tt))
