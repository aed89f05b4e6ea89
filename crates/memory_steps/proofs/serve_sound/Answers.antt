-- `memory_steps::serve_sound` meets its contract. Assumes nothing.
use Rattle.std.proofs.Common.{rules, ◌∙◌, sym, ap, arith}
use Rattle.store.specs.Stores.{lane_at, block_at}
use Rattle.store_commit.proofs.Bounds.{lane_bound}
use Rattle.memory_steps.proofs.Bounds.{ready_bound}
use Rattle.words.specs.declared.BlockNo.{BlockNo}
use Rattle.machine.specs.Machine.Serve.{serve_of}
use Rattle.memory_steps.proofs.serve_sound.Goals as goal

pub returns-then-store-k-clause-answer : goal.returns-then-store-k-clause-answer
unfolding serve_of
returns-then-store-k-clause-answer c = search rules

pub returns-then-store-k-clause-store : goal.returns-then-store-k-clause-store
unfolding serve_of
returns-then-store-k-clause-store c = search rules

pub bounds-store-k : goal.bounds-store-k
bounds-store-k c = lane_bound _ _ c.requires c.if-store-k.false

pub returns-in_err-o-clause-answer : goal.returns-in_err-o-clause-answer
unfolding serve_of
returns-in_err-o-clause-answer c = search rules

pub returns-in_err-o-clause-store : goal.returns-in_err-o-clause-store
unfolding serve_of
returns-in_err-o-clause-store c = search rules

pub serve_move-part-requires : goal.serve_move-part-requires
serve_move-part-requires c = lane_bound _ _ c.requires c.if-store-k.false

pub commit_move-requires : goal.commit_move-requires
commit_move-requires c =
    let ready = ready_bound _ _ c.requires c.if-store-k.false _ (sym c.check_ready.ensures ∙ c.in_ok-o.was) in
    (lane_bound _ _ c.requires c.if-store-k.false, omega (arith, ready, ap (λ (x : BlockNo). x.0) c.block-a.ensures))

pub returns-clause-answer : goal.returns-clause-answer
unfolding serve_of
returns-clause-answer c =
    let s = c.args.store.now in
    let m = c.commit_move.ensures.answer (lane_at s c.args.k.0) (block_at s 0) s.control in
    search rules

pub returns-clause-store : goal.returns-clause-store
unfolding serve_of
returns-clause-store c =
    let s = c.args.store.now in
    let m = c.commit_move.ensures.store (lane_at s c.args.k.0) (block_at s 0) s.control in
    search rules
