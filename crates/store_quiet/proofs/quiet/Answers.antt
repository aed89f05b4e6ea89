-- `store_quiet::quiet` meets its contract: past the eighth lane no lane is active. Assumes nothing.
use Rattle.std.proofs.Common.{rules, tests, ◌≡◌, false, not, refl, ap}
use lib.ListN.{take}
use Rattle.std.specs.List.{list_any}
use Rattle.std.proofs.lemmas.Iterator.{YieldsList-from_slice, YieldsList-from_take}
use Rattle.std.proofs.lemmas.Iterator.Search.{any_from_yields_List}
use Rattle.words.proofs.Beyond.{any_beyond}
use Rattle.store.specs.Stores.{no_lane}
use Rattle.store.specs.Quiet.{active_of, quiet_of}
use Rattle.store_quiet.proofs.quiet.Goals as goal

none_past : active_of no_lane ≡ false
unfolding active_of
none_past = refl

pub returns-then-not-busy : goal.returns-then-not-busy
unfolding quiet_of
returns-then-not-busy c =
    let idle : c.busy.result ≡ false = search (rules, tests) in
    let some : c.any.result ≡ list_any active_of (take c.args.s.now.shape.n c.args.s.now.lanes) =
    any_from_yields_List active_of _ _ _ c.any.ensures.ran (YieldsList-from_take c.args.s.now.shape.n (YieldsList-from_slice c.args.s.now.lanes cc) cc) (λ x b q k. search (rules, tests)) in
    rw (quiet_of, ← c.busy.ensures, idle, any_beyond active_of c.args.s.now.lanes no_lane c.args.s.now.shape.n none_past) (ap not some)
