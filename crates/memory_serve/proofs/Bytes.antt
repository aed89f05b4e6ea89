-- Eight flags, shifted and joined, are their byte; the set bits of a serve's byte are as many as its orders. Assumes nothing.
use Prim.Native.Nat.{ℕ, ◌*◌, ◌%◌, ◌^◌}
use mathlib.Core.Path.{◌≡◌, refl, sym, ap, ◌∙◌}
use mir.Val.{bool_byte}
use lib.Bits.{bit_or}
use lib.Dec.{eqb}
use lib.ListN.{length}
use borrow.Author.Tests.{eqb-true}
use Rattle.words.specs.declared.LaneNo.{LaneNo}
use Rattle.words.specs.Folds.{any_to}
use Rattle.lanes.specs.declared.Command.{Command}
use Rattle.store.specs.declared.Block.{Block}
use Rattle.store.specs.LaneSets.{LaneSet, goes_to, count_of}
use Rattle.machine.specs.Machine.LaneBytes.{bits_in, byte_of, orders_byte, lanes_of}
use Rattle.machine.specs.Machine.Serve.{ordered}
use Rattle.machine.proofs.Laws.LaneBytes.{each, byte_fits, byte_lanes}
use Rattle.machine.proofs.Store.ServeByte.{orders_count}

-- flag j in its place
abbrev shifted : LaneSet → ℕ → ℕ
shifted p j = bool_byte (goes_to p j) * 2 ^ j % 256

abbrev joined : LaneSet → ℕ
joined p =
    bit_or (bit_or (bit_or (bit_or (bool_byte (goes_to p 0)) (shifted p 1)) (shifted p 2)) (shifted p 3))
    (bit_or (bit_or (bit_or (shifted p 4) (shifted p 5)) (shifted p 6)) (shifted p 7))

-- tried on the flags of each byte
pub joined_byte : (p : LaneSet) → length p ≡ 8 → joined p ≡ byte_of p
unfolding any_to
joined_byte p e = ap joined (sym (byte_lanes p e)) ∙ eqb-true (joined (lanes_of (byte_of p))) (byte_of p) (each (λ x. eqb (joined (lanes_of x)) x) refl (byte_of p) (byte_fits p))

-- the count of the byte's bits counts the orders
pub count_orders : (b : Block) (k : LaneNo) (x : Command) {byte n : ℕ} → byte ≡ orders_byte b k x → n ≡ bits_in byte → n ≡ count_of (ordered b k x)
count_orders b k x e c = c ∙ (ap bits_in e ∙ orders_count b k x)
