-- A picture that isn't refused has its records in order, and two pictures of a store are the same. Assumes nothing.
use Prim.Native.Nat.{ℕ}
use mathlib.Core.Bool.{false}
use mathlib.Core.Path.{◌≡◌, refl, sym, ◌∙◌}
use mathlib.Core.List.{List}
use lib.Dec.{ltb}
use lib.ListN.{length, take, drop}
use lib.Seq.{take_at}
use Rattle.words.proofs.Folds.{by_cond, pick}
use Rattle.store.specs.declared.Store.{Store}
use Rattle.machine.specs.Machine.Corruption.{corrupt_of}
use Rattle.machine.specs.Machine.Fill.{Filling}
use Rattle.machine.specs.Machine.Picture.{picture_bytes, picture_of}
use Rattle.machine.specs.Claims.PictureOrder.{PictureInOrder, SamePictures}
use Rattle.machine.proofs.Bounds.KeepsLane.{clash}
use Rattle.machine.proofs.Pictures.Copies.{bytes_in_order}
use Rattle.machine.proofs.Pictures.OneOrder.{one_order}
use Rattle.std.specs.Prelude.{Ok}

-- a picture that isn't refused is of a store that is not corrupt, begins with these bytes and gives their length
record Pictured (s : Store) (l : ℕ) (buffer : List ℕ) : Type 0 where
  sound : corrupt_of s ≡ false
  size : l ≡ length (picture_bytes s)
  bytes : take l buffer ≡ picture_bytes s

picture_given : (s : Store) (b : List ℕ) (l : ℕ) → (picture_of s b).answer ≡ Ok l → Pictured s l (picture_of s b).buffer
unfolding picture_of
picture_given s b l = pick P (corrupt_of s) _ _ (λ _ e. clash (cc))
    (λ g. by_cond P (ltb (length b) (length p)) _ _ (λ e. clash (cc))
    (λ e. let q : l ≡ length p = cc in record { sound = g; size = q; bytes = rw q (take_at p (drop (length p) b) (length p) refl) }))
  where
    p : List ℕ
    p = picture_bytes s

    P : Filling → Type 0
    P x = x.answer ≡ Ok l → Pictured s l x.buffer

pub in_order : PictureInOrder
in_order s b l e = let g = picture_given s b l e in rw g.bytes (bytes_in_order s g.sound)

-- two pictures of one store are the same file
pub same_pictures : SamePictures
same_pictures s b d l r p q =
    let x = picture_given s b l p in
    let y = picture_given s d r q in
    (x.size ∙ sym y.size, one_order s _ _ (in_order s b l p) (in_order s d r q))
