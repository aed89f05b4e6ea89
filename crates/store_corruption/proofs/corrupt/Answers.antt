-- `store_corruption::corrupt` meets its contract: a shape in its range bounds the lanes and the blocks that are looked at. Assumes nothing.
use Rattle.std.proofs.Common.{rules, tests, ◌≡◌, false}
use Rattle.store.specs.Opening.{bad_shape}
use Rattle.machine.proofs.Bounds.Shape.{shape_bounds}
use Rattle.store_corruption.proofs.corrupt.Goals as goal

pub bad_lanes-requires : goal.bad_lanes-requires
bad_lanes-requires c =
    let sound : bad_shape c.args.s.shape ≡ false = search (rules, tests) in
    let b = shape_bounds _ sound in (b.1, b.3)

pub bad_blocks-requires : goal.bad_blocks-requires
bad_blocks-requires c =
    let sound : bad_shape c.args.s.shape ≡ false = search (rules, tests) in
    (shape_bounds _ sound).5
