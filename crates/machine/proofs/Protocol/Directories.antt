-- What memory's flags owe to the protocol, said of the view v that they stand for: serve's orders, return, close and the opening.
-- Beside Invariant's `Directory` and the blank block in BlockQuiet no other file of the protocol looks at the flags. Assumes nothing.
use Prim.Native.Nat.{ℕ, ◌<◌, ◌≤◌}
use mathlib.Core.Logic.{◌⊎◌, inl, inr, ◌≢◌}
use mathlib.Core.Path.{◌≡◌, refl, sym, ◌∙◌}
use mathlib.Core.Bool.{Bool, true, false, cond}
use mathlib.Core.List.{List}
use lib.ListN.{length, get_or, set, length-set, get_or-replicate, get_or-eq_default}
use lib.Seq.{get_or-set_same, get_or-set_other}
use Rattle.words.specs.declared.LaneNo.{LaneNo}
use Rattle.words.proofs.Folds.{below?}
use Rattle.queues.specs.declared.ReturnKind.{ReturnKind}
use Rattle.queues.specs.declared.ReturnKind.TheVariants.{Eject, WriteEject, Updated, Purged, PurgedWords, Gone}
use Rattle.lanes.specs.declared.Command.{Command}
use Rattle.lanes.specs.declared.Command.TheVariants.{ReadShared, ReadExclusive, Exclude}
use Rattle.store.specs.declared.Block.{Block}
use Rattle.store.specs.LaneSets.{nobody, goes_to}
use Rattle.machine.specs.Machine.Serve.{sends_of, ordered, bare_of, exclusively, closed_block}
use Rattle.machine.specs.Machine.Return.{absent, written_back, taken_by}
use Rattle.machine.proofs.Laws.Tests.{on}
use Rattle.machine.proofs.Laws.Sets.{same?, set_here}
use Rattle.machine.proofs.Bounds.KeepsLane.{clash}
use Rattle.machine.proofs.List.Owes.{upd}
use Rattle.machine.proofs.Laws.Updates.{upd_same, upd_other, upd_cases}
use Rattle.machine.proofs.Protocol.BlockState.{Status, Invalid, Shared, Modified, held, dirty}
use Rattle.machine.proofs.Protocol.Invariant.{Fits, CommandFits, bearing, Covered, exclusive, view_of, Directory}

-- nobody is no lane at all
pub nobody_none : (j : ℕ) → goes_to nobody j ≡ false
nobody_none j = go (below? j 8)
  where
    go : (j < 8) ⊎ (8 ≤ j) → goes_to nobody j ≡ false
    go (inl h) = get_or-replicate 8 j false false h
    go (inr h) = get_or-eq_default nobody false h

-- the flag that was reset is reset
reset_here : (flags : List Bool) (k : ℕ) → get_or (set flags k false) k false ≡ false
reset_here flags k = set_here (λ (b : Bool). b ≡ false) flags k false false refl refl

-- what a view says of the flag
pub present_held : (v : ℕ → Status) (b : Block) → Directory v b → (j : ℕ) → get_or b.present j false ≡ held (v j)
present_held v b d j = go (get_or b.present j false) b.modified (d.view j)
  where
    go : (p q : Bool) → v j ≡ cond p (cond q Modified Shared) Invalid → p ≡ held (v j)
    go true true e = rw e
    go true false e = rw e
    go false q e = rw e

-- a lane that has it PRIVATE has it where MODIFIED is set
modified_view : (v : ℕ → Status) (b : Block) → Directory v b → b.modified ≡ false → (j : ℕ) → dirty (v j) ≡ false
modified_view v b d m j = go (get_or b.present j false) (d.view j)
  where
    go : (p : Bool) → v j ≡ cond p (cond b.modified Modified Shared) Invalid → dirty (v j) ≡ false
    go true e = rw (e, m)
    go false e = rw e

pub not_held : (x : Status) → held x ≡ false → x ≡ Invalid
not_held Invalid e = refl
not_held Shared e = clash (cc)
not_held Modified e = clash (cc)

-- the lanes that an order may go to are the ones with a copy, but for k
sent_other : (b : Block) (k : LaneNo) (j : ℕ) → j ≢ k.0 → get_or (set b.present k.0 false) j false ≡ get_or b.present j false
sent_other b k j n = get_or-set_other b.present k.0 j false false n

unsent : (v : ℕ → Status) (b : Block) (k : LaneNo) → Directory v b → (j : ℕ) → j ≢ k.0 → get_or (set b.present k.0 false) j false ≡ false → v j ≡ Invalid
unsent v b k d j n e = not_held (v j) (sym (present_held v b d j) ∙ sym (sent_other b k j n) ∙ e)

-- serve: a lane that no order goes to is as the command needs it
pub order_covers : (v : ℕ → Status) (b : Block) (k : LaneNo) (x : Command) → Directory v b → (j : ℕ) → j ≢ k.0 →
    goes_to (ordered b k x) j ≡ false → Covered x (v j)
unfolding ordered
order_covers v b k ReadShared d j n e =
    on b.modified (λ m. rw (unsent v b k d j n (rw m at e))) (λ m. modified_view v b d m j)
order_covers v b k ReadExclusive d j n e = unsent v b k d j n e
order_covers v b k Exclude d j n e = unsent v b k d j n e

-- .. k itself gets none
pub order_self : (b : Block) (k : LaneNo) (x : Command) → goes_to (ordered b k x) k.0 ≡ false
unfolding ordered
order_self b k x = on (sends_of x b.modified) (λ m. rw m (reset_here b.present k.0)) (λ m. rw m (nobody_none k.0))

-- .. nor does a lane that there is not
pub order_far : (v : ℕ → Status) (b : Block) (k : LaneNo) (x : Command) → Directory v b → (j : ℕ) → 8 ≤ j → goes_to (ordered b k x) j ≡ false
unfolding ordered
order_far v b k x d j h =
    let l : length (set b.present k.0 false) ≤ j = rw (length-set b.present k.0 false, d.flags) h in
    on (sends_of x b.modified) (λ m. rw m (get_or-eq_default (set b.present k.0 false) false l)) (λ m. rw m (nobody_none j))

-- .. and the grant is to be bare where k has a copy
pub bare_held : (v : ℕ → Status) (b : Block) (k : LaneNo) (x : Command) (load : Bool) → Directory v b → CommandFits (v k.0) x load →
    bare_of x (get_or b.present k.0 false) ≡ held (v k.0)
bare_held v b k ReadShared load d c = rw c.0
bare_held v b k ReadExclusive load d c = rw c.0
bare_held v b k Exclude load d c = present_held v b d k.0

-- k's flag is reset, where k has no PRIVATE copy
absent_directory : (v : ℕ → Status) (b : Block) (k : LaneNo) → Directory v b → dirty (v k.0) ≡ false → Directory (upd v k.0 Invalid) (absent k b)
absent_directory v b k d c =
    record {
      flags = length-set b.present k.0 false ∙ d.flags;
      view = upd_cases (λ j y. y ≡ view_of (absent k b) j) v k.0 Invalid (rw (reset_here b.present k.0))
          (λ j n. d.view j ∙ rw (sent_other b k j n));
      some = λ m. let w = d.some m in (w.0, upd_other v k.0 Invalid w.0 (λ e. clash (cc)) ∙ w.1);
    }

-- MODIFIED is reset, and all views are those of the flags left
written_directory : (v : ℕ → Status) (b : Block) (ws : List ℕ) → length b.present ≡ 8 →
    ((j : ℕ) → v j ≡ cond (get_or b.present j false) Shared Invalid) → Directory v (written_back ws b)
written_directory v b ws l e = record { flags = l; view = e; some = λ m. clash (cc) }

-- k gives up its PRIVATE copy
given_up : (v : ℕ → Status) (b : Block) (k : LaneNo) (ws : List ℕ) → Directory v b → ((j : ℕ) → j ≢ k.0 → v j ≡ Invalid) →
    Directory (upd v k.0 Invalid) (written_back ws (absent k b))
given_up v b k ws d alone =
    written_directory (upd v k.0 Invalid) (absent k b) ws (length-set b.present k.0 false ∙ d.flags)
    (upd_cases (λ j y. y ≡ cond (get_or (set b.present k.0 false) j false) Shared Invalid) v k.0 Invalid (rw (reset_here b.present k.0))
    (λ j n. rw (sent_other b k j n, present_held v b d j, alone j n)))

-- k keeps a copy that is not PRIVATE
kept_shared : (v : ℕ → Status) (b : Block) (k : LaneNo) (ws : List ℕ) → Directory v b →
    ((i j : ℕ) → v i ≡ Modified → j ≢ i → v j ≡ Invalid) → held (v k.0) ≡ true → Directory (upd v k.0 Shared) (written_back ws b)
kept_shared v b k ws d sole h =
    written_directory (upd v k.0 Shared) b ws d.flags
    (upd_cases (λ j y. y ≡ cond (get_or b.present j false) Shared Invalid) v k.0 Shared (rw (present_held v b d k.0, h))
    (λ j n. on b.modified (λ m. rw (present_held v b d j, alone m j n)) (λ m. d.view j ∙ rw m)))
  where
    alone : b.modified ≡ true → (j : ℕ) → j ≢ k.0 → v j ≡ Invalid
    alone m j n = sole k.0 j (d.view k.0 ∙ rw (present_held v b d k.0, h, m)) n

-- return: a message that fits k's view leads to the view that it says
pub return_directory : (v : ℕ → Status) (b : Block) (k : LaneNo) (kind : ReturnKind) (ws : List ℕ) (y : Status) → Directory v b →
    ((i j : ℕ) → v i ≡ Modified → j ≢ i → v j ≡ Invalid) → Fits (v k.0) kind y → Directory (upd v k.0 y) (taken_by kind ws k b)
return_directory v b k Eject ws y d sole t = rw t.1 (absent_directory v b k d (rw t.0))
return_directory v b k WriteEject ws y d sole t = rw t.1 (given_up v b k ws d (λ j. sole k.0 j t.0))
return_directory v b k Updated ws y d sole t = rw t.1 (kept_shared v b k ws d sole t.0)
return_directory v b k Purged ws y d sole t = rw t.1 (absent_directory v b k d (rw t.0))
return_directory v b k PurgedWords ws y d sole t = rw t.1 (given_up v b k ws d (λ j. sole k.0 j t.0))
return_directory v b k Gone ws y d sole t = rw t.1 (absent_directory v b k d (rw t.0))

-- k's flag alone is set, and MODIFIED
alone_directory : (v : ℕ → Status) (b : Block) (k : LaneNo) → k.0 < 8 → ((j : ℕ) → j ≢ k.0 → v j ≡ Invalid) →
    Directory (upd v k.0 Modified) (exclusively b k)
alone_directory v b k h alone =
    record {
      flags = length-set nobody k.0 true;
      view = upd_cases (λ j y. y ≡ view_of (exclusively b k) j) v k.0 Modified (rw (get_or-set_same nobody k.0 true false h))
          (λ j n. alone j n ∙ rw (get_or-set_other nobody k.0 j true false n, nobody_none j));
      some = λ m. (k.0, upd_same v k.0 Modified);
    }

-- k's flag is set, where nobody has a PRIVATE copy
joined_directory : (v : ℕ → Status) (b : Block) (k : LaneNo) → k.0 < 8 → Directory v b → ((j : ℕ) → dirty (v j) ≡ false) →
    Directory (upd v k.0 Shared) (closed_block ReadShared b k)
joined_directory v b k h d clean =
    record {
      flags = length-set b.present k.0 true ∙ d.flags;
      view = upd_cases (λ j y. y ≡ view_of (closed_block ReadShared b k) j) v k.0 Shared
          (rw (get_or-set_same b.present k.0 true false (rw d.flags h), unmodified))
          (λ j n. d.view j ∙ rw (get_or-set_other b.present k.0 j true false n));
      some = λ m. clash (cc (unmodified));
    }
  where
    unmodified : b.modified ≡ false
    unmodified = on b.modified (λ m. let w = d.some m in clash (cc (clean w.0))) (λ m. m)

-- close: where all others are as the command needs them, the flags are those of the grant
pub close_directory : (v : ℕ → Status) (b : Block) (k : LaneNo) (x : Command) → Directory v b → k.0 < 8 →
    ((j : ℕ) → j ≢ k.0 → Covered x (v j)) → dirty (v k.0) ≡ false →
    Directory (upd v k.0 (cond (exclusive x) Modified Shared)) (closed_block x b k)
close_directory v b k ReadShared d h cover c = joined_directory v b k h d clean
  where
    clean : (j : ℕ) → dirty (v j) ≡ false
    clean j = go (same? j k.0)
      where
        go : (j ≡ k.0) ⊎ (j ≢ k.0) → dirty (v j) ≡ false
        go (inl e) = rw e c
        go (inr n) = cover j n
close_directory v b k ReadExclusive d h cover c = alone_directory v b k h cover
close_directory v b k Exclude d h cover c = alone_directory v b k h cover

-- the words: return writes those that a message brings, close none
pub taken_words : (kind : ReturnKind) (ws : List ℕ) (k : LaneNo) (b : Block) → (taken_by kind ws k b).words ≡ cond (bearing kind) ws b.words
taken_words Eject ws k b = refl
taken_words WriteEject ws k b = refl
taken_words Updated ws k b = refl
taken_words Purged ws k b = refl
taken_words PurgedWords ws k b = refl
taken_words Gone ws k b = refl

pub closed_words : (x : Command) (b : Block) (k : LaneNo) → (closed_block x b k).words ≡ b.words
closed_words ReadShared b k = refl
closed_words ReadExclusive b k = refl
closed_words Exclude b k = refl

-- the opening: no flag is set
pub blank_directory : (b : Block) → length b.present ≡ 8 → ((k : ℕ) → get_or b.present k false ≡ false) → b.modified ≡ false →
    Directory (λ k. Invalid) b
blank_directory b l e m = record { flags = l; view = λ k. rw (e k); some = λ q. clash (cc) }
