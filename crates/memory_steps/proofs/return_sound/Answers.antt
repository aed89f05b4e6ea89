-- `memory_steps::return_sound` meets its contract. Assumes nothing.
use Rattle.std.proofs.Common.{rules}
use Rattle.queues.specs.Queues.{no_return}
use Rattle.store.specs.Stores.{lane_at, block_at}
use Rattle.machine.specs.Machine.Return.{return_of}
use Rattle.store_commit.proofs.Bounds.{lane_bound}
use Rattle.memory_return.proofs.Taking.{taken}
use Rattle.memory_steps.proofs.Bounds.{head_bound, service_bound}
use Rattle.memory_steps.proofs.return_sound.Goals as goal

pub returns-then-store-k-clause-answer : goal.returns-then-store-k-clause-answer
unfolding return_of
returns-then-store-k-clause-answer c = search rules

pub returns-then-store-k-clause-store : goal.returns-then-store-k-clause-store
unfolding return_of
returns-then-store-k-clause-store c = search rules

pub bounds-store-k : goal.bounds-store-k
bounds-store-k c = lane_bound _ _ c.requires c.if-store-k.false

pub returns-in_err-x-clause-answer : goal.returns-in_err-x-clause-answer
unfolding return_of
returns-in_err-x-clause-answer c = let t = c.take.ensures no_return in search rules

pub returns-in_err-x-clause-store : goal.returns-in_err-x-clause-store
unfolding return_of
returns-in_err-x-clause-store c = let t = c.take.ensures no_return in search rules

pub bounds-store-x : goal.bounds-store-x
bounds-store-x c = head_bound _ _ c.requires c.if-store-k.false (c.take.ensures no_return) c.in_ok-x.ensures.ok_part

pub return_move-part-requires : goal.return_move-part-requires
return_move-part-requires c = (lane_bound _ _ c.requires c.if-store-k.false, service_bound _ _ c.requires c.if-store-k.false)

pub commit_move-requires : goal.commit_move-requires
commit_move-requires c =
    (lane_bound _ _ c.requires c.if-store-k.false, head_bound _ _ c.requires c.if-store-k.false (c.take.ensures no_return) c.in_ok-x.ensures.ok_part)

pub returns-clause-answer : goal.returns-clause-answer
unfolding return_of
returns-clause-answer c =
    let l = lane_at c.args.store.now c.args.k.0 in
    let n = taken l (c.take.ensures no_return) c.in_ok-x.ensures.ok_part in
    let m = c.commit_move.ensures.answer l (block_at c.args.store.now c.in_ok-x.x.block.0) c.args.store.now.control in
    search rules

pub returns-clause-store : goal.returns-clause-store
unfolding return_of
returns-clause-store c =
    let l = lane_at c.args.store.now c.args.k.0 in
    let n = taken l (c.take.ensures no_return) c.in_ok-x.ensures.ok_part in
    let m = c.commit_move.ensures.store l (block_at c.args.store.now c.in_ok-x.x.block.0) c.args.store.now.control in
    search rules
