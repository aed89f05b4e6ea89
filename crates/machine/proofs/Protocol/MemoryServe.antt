-- Memory serves an operation: the orders are sent, the service is open, and the invariant of its block is kept. Assumes nothing.
use Prim.Native.Nat.{ℕ, ◌+◌, ◌<◌}
use mathlib.Core.Logic.{◌⊎◌, inl, inr, ◌≢◌}
use mathlib.Core.Path.{◌≡◌, refl, sym, ap, ◌∙◌}
use mathlib.Core.Bool.{Bool, true, false, cond, ◌||◌}
use mathlib.Core.List.{List, [], ◌∷◌, ◌++◌}
use borrow.Author.Tests.{eq-eqb, ne_eqb}
use native.Mathlib.Omega.{arith}
use Rattle.words.specs.declared.LaneNo.{LaneNo}
use Rattle.words.specs.Units.{block_of}
use Rattle.words.specs.Folds.{sum_to}
use Rattle.words.specs.Operations.{is_load}
use Rattle.words.proofs.Folds.{or_left, or_right, pick}
use Rattle.queues.specs.Messages.{ReturnMessage}
use Rattle.queues.specs.declared.ReturnKind.{ReturnKind}
use Rattle.queues.specs.declared.ReturnKind.TheVariants.{Eject, WriteEject, Updated, Purged, PurgedWords, Gone}
use Rattle.queues.specs.Messages.{DownMessage}
use Rattle.queues.specs.declared.DownKind.{DownKind}
use Rattle.queues.specs.declared.DownKind.TheVariants.{Update, Purge, Grant, BareGrant}
use Rattle.queues.specs.Messages.{bare_message}
use Rattle.lanes.specs.declared.Command.{Command}
use Rattle.lanes.specs.declared.Command.TheVariants.{ReadShared, ReadExclusive, Exclude}
use Rattle.lanes.specs.declared.Operation.{Operation}
use Rattle.lanes.specs.declared.Waiting.{Waiting}
use Rattle.lanes.specs.declared.Waiting.TheVariants.{Unserved, Served}
use Rattle.store.specs.declared.Service.{Service}
use Rattle.store.specs.LaneSets.{goes_to, count_of}
use Rattle.machine.specs.Machine.Serve.{order_of, ordered, service_for}
use Rattle.machine.specs.Machine.Return.{is_answer}
use Rattle.machine.specs.Machine.Settle.{is_order}
use Rattle.machine.proofs.Laws.Tests.{on}
use Rattle.machine.proofs.Laws.Sets.{same?}
use Rattle.machine.proofs.Laws.Sums.{sum_same, count_sum}
use Rattle.machine.proofs.Bounds.KeepsLane.{clash}
use Rattle.machine.proofs.Protocol.BlockState.{Status, Modified, held, Seen, BlockState}
use Rattle.machine.proofs.Protocol.Invariant.{Rest, DueHead, Due, filled, answer_count, order_count, grant_count, owed, serving, OperationFits, is_grant, is_update, some_update, is_updated, some_updated, exclusive, ServiceFits, Inv}
use Rattle.machine.proofs.Protocol.Moves.{wait_seen, post_seen, serve_state}
use Rattle.machine.proofs.Protocol.Chains.{rest_due}
use Rattle.machine.proofs.Protocol.Directories.{order_covers, order_self, order_far, bare_held}
use Rattle.machine.proofs.Protocol.BlockQuiet.{quiet_view}
use Rattle.machine.proofs.Protocol.MemoryMoves.{LaneFits, lane_fits, other_service, nothing_owed, no_answers, no_orders, grants_join, post_owed, post_bears}
use Rattle.std.specs.Prelude.{Option, Some, None}

-- queues without orders and grants, without orders, without answers
no_downs : (q : List DownMessage) → order_count q ≡ 0 → grant_count q ≡ 0 → q ≡ []
no_downs [] e g = refl
no_downs (n ∷ q) e g = on (is_order n.kind) (λ o. absurd (let z = rw o at e in omega arith)) (λ o. absurd (let z = rw o at g in omega arith))

no_update : (q : List DownMessage) → order_count q ≡ 0 → some_update q ≡ false
no_update [] e = refl
no_update (n ∷ q) e = go n.kind e (λ z. no_update q z)
  where
    go : (k : DownKind) → cond (is_order k) 1 0 + order_count q ≡ 0 → (order_count q ≡ 0 → some_update q ≡ false) → (is_update k || some_update q) ≡ false
    go Update z r = absurd (omega arith)
    go Purge z r = absurd (omega arith)
    go Grant z r = r (omega arith)
    go BareGrant z r = r (omega arith)

no_updated : (q : List ReturnMessage) → answer_count q ≡ 0 → some_updated q ≡ false
no_updated [] e = refl
no_updated (n ∷ q) e = go n.kind e (λ z. no_updated q z)
  where
    go : (k : ReturnKind) → cond (is_answer k) 1 0 + answer_count q ≡ 0 → (answer_count q ≡ 0 → some_updated q ≡ false) → (is_updated k || some_updated q) ≡ false
    go Eject z r = r (omega arith)
    go WriteEject z r = r (omega arith)
    go Updated z r = absurd (omega arith)
    go Purged z r = r (omega arith)
    go PurgedWords z r = r (omega arith)
    go Gone z r = r (omega arith)

-- UPDATE does not come by another message
update_join : (q : List DownMessage) (m : DownMessage) → some_update q ≡ false → is_update m.kind ≡ false → some_update (q ++ (m ∷ [])) ≡ false
update_join [] m e h = rw h
update_join (n ∷ q) m e h = rw (update_join q m (or_right (is_update n.kind) (some_update q) e) h, or_left (is_update n.kind) (some_update q) e)

-- an order joins the down queue where there is none
rest_order : (y : Status) (q : List DownMessage) (x : Status) (m : DownMessage) → Rest y q x → order_count q ≡ 0 → is_order m.kind ≡ true → Rest y (q ++ (m ∷ [])) x
rest_order y [] x m r z o = (o, refl, r)
rest_order y (n ∷ q) x m r z o = absurd (let t = r.0 in let u = rw t at z in omega arith)

due_order : (w : Waiting) (l : Status) (q : List DownMessage) (x : Status) (m : DownMessage) → Due w l q x → order_count q ≡ 0 → is_order m.kind ≡ true →
    Due w l (q ++ (m ∷ [])) x
due_order w l [] x m d z o = rest_due w l (m ∷ []) x (o, refl, d)
due_order w l (n ∷ q) x m d z o = go n.kind d z
  where
    go : (k : DownKind) → DueHead w l k q x → cond (is_order k) 1 0 + order_count q ≡ 0 → DueHead w l k (q ++ (m ∷ [])) x
    go Update h e = absurd (omega arith)
    go Purge h e = absurd (omega arith)
    go Grant h e = (h.0, rest_order (filled w) q x m h.1 (omega arith) o)
    go BareGrant h e = (h.0, h.1, rest_order Modified q x m h.2 (omega arith) o)

-- the kind of the order
pub order_order : (x : Command) → is_order (order_of x) ≡ true
order_order ReadShared = refl
order_order ReadExclusive = refl
order_order Exclude = refl

order_bare : (x : Command) → is_grant (order_of x) ≡ false
order_bare ReadShared = refl
order_bare ReadExclusive = refl
order_bare Exclude = refl

order_purge : (x : Command) → exclusive x ≡ true → is_update (order_of x) ≡ false
order_purge ReadShared e = clash (cc)
order_purge ReadExclusive e = refl
order_purge Exclude e = refl

-- the conjuncts of a lane that an order goes to
posted_fits : (v : Status) (x : Option Service) (f : List ℕ) (k : ℕ) (l : Seen) (m : DownMessage) → LaneFits v x f k l → order_count l.downs ≡ 0 →
    is_order m.kind ≡ true → is_grant m.kind ≡ false → LaneFits v x f k (post_seen m l)
posted_fits v x f k l m h z o n =
    record {
      chain = record { meet = h.chain.meet; sent = h.chain.sent; due = due_order l.waiting l.line l.downs h.chain.meet m h.chain.due z o };
      grant = let g = h.grant in let j : grant_count (l.downs ++ (m ∷ [])) ≡ grant_count l.downs + 0 = grants_join l.downs m ∙ rw o in omega arith;
      wait = h.wait;
      bears = post_bears f m l h.bears (λ e. clash (cc));
    }

-- .. and of the lane that is served
served_fits : (v : Status) (y x : Option Service) (f : List ℕ) (k : ℕ) (l : Seen) (o : Operation) → LaneFits v y f k l → l.waiting ≡ Unserved o → l.downs ≡ [] →
    serving x k ≡ 1 → LaneFits v x f k (wait_seen (Served o) l)
served_fits v y x f k l o h w d e =
    record {
      chain = record { meet = h.chain.meet; sent = h.chain.sent; due = let t = h.chain.due in rw d (rw d at t) };
      grant = rw (d, e);
      wait = let t = h.wait in rw w at t;
      bears = record { line = h.bears.line; returns = h.bears.returns; downs = h.bears.downs };
    }

-- whether the order goes to lane j; the order
abbrev sent_to : LaneNo → Operation → BlockState → ℕ → Bool
sent_to k o b j = goes_to (ordered b.block k o.command) j

abbrev order_for : Operation → DownMessage
order_for o = bare_message (order_of o.command) (block_of o.word)

-- the lanes after it: the one that is served, those that get the order, the others
served_here : (k : LaneNo) (o : Operation) (b : BlockState) → (serve_state k o b).lane k.0 ≡ wait_seen (Served o) (b.lane k.0)
served_here k o b = rw (order_self b.block k o.command, eq-eqb k.0 k.0 refl)

serve_cases : (P : ℕ → Seen → Type 0) (k : LaneNo) (o : Operation) (b : BlockState) → P k.0 (wait_seen (Served o) (b.lane k.0)) →
    ((j : ℕ) → j ≢ k.0 → sent_to k o b j ≡ true → P j (post_seen (order_for o) (b.lane j))) →
    ((j : ℕ) → j ≢ k.0 → sent_to k o b j ≡ false → P j (b.lane j)) → (j : ℕ) → P j ((serve_state k o b).lane j)
serve_cases P k o b here posted other j = go (same? j k.0)
  where
    go : (j ≡ k.0) ⊎ (j ≢ k.0) → P j ((serve_state k o b).lane j)
    go (inl e) = rw (e, served_here k o b) here
    go (inr n) = rw (ne_eqb j k.0 n) (pick (P j) (sent_to k o b j) (post_seen (order_for o) (b.lane j)) (b.lane j) (posted j n) (other j n))

-- a lane owes an answer if the order goes to it
wait_owed : (x : Waiting) (l : Seen) → owed (wait_seen x l) ≡ owed l
unfolding owed
wait_owed x l = refl

served_owed : (k : LaneNo) (o : Operation) (b : BlockState) → ((j : ℕ) → owed (b.lane j) ≡ 0) → (j : ℕ) → owed ((serve_state k o b).lane j) ≡ cond (sent_to k o b j) 1 0
served_owed k o b z =
    serve_cases (λ (j : ℕ) (l : Seen). owed l ≡ cond (sent_to k o b j) 1 0) k o b
    (rw (order_self b.block k o.command) (wait_owed (Served o) (b.lane k.0) ∙ z k.0))
    (λ j n e. rw e (post_owed (order_for o) (b.lane j) ∙ rw (z j, order_order o.command)))
    (λ j n e. rw e (z j))

owes_none : (t : Bool) → ◌≡◌ {A = ℕ} (cond t 1 0) 0 → t ≡ false
owes_none true e = absurd (omega arith)
owes_none false e = refl

served_count : (k : LaneNo) (o : Operation) (b : BlockState) → ((j : ℕ) → owed (b.lane j) ≡ 0) →
    sum_to (λ j. owed ((serve_state k o b).lane j)) 8 ≡ count_of (ordered b.block k o.command)
unfolding count_of
served_count k o b z =
    sum_same (λ j. cond (sent_to k o b j) 1 0) (λ j. owed ((serve_state k o b).lane j)) 8 (λ j _. served_owed k o b z j)
    ∙ sym (count_sum (sent_to k o b) 8)

-- the service that opens
abbrev opened : LaneNo → Operation → BlockState → Service
opened k o b = service_for k o b.block (count_of (ordered b.block k o.command))

opened_fits : (v : ℕ → Status) (b : BlockState) (f : List ℕ) (k : LaneNo) (o : Operation) → Inv v b f → k.0 < 8 → (b.lane k.0).waiting ≡ Unserved o →
    (b.lane k.0).returns ≡ [] → (b.lane k.0).downs ≡ [] → ((j : ℕ) → owed (b.lane j) ≡ 0) → ServiceFits v (serve_state k o b).lane (opened k o b)
opened_fits v b f k o i h w r d z =
    record {
      below = h;
      returns = rw (served_here k o b) r;
      downs = rw (served_here k o b) d;
      bare = rw (served_here k o b) (bare_held v b.block k o.command (is_load o.op) i.directory (rw view fits) ∙ ap held view);
      operation = o;
      waits = rw (served_here k o b);
      command = refl;
      cover = λ j n e. order_covers v b.block k o.command i.directory j n (owes_none (sent_to k o b j) (sym (served_owed k o b z j) ∙ e));
      no_update = λ e. serve_cases (λ (j : ℕ) (l : Seen). some_update l.downs ≡ false) k o b (calm k.0)
          (λ j _ _. update_join (b.lane j).downs (order_for o) (calm j) (order_purge o.command e)) (λ j _ _. calm j);
      no_updated = λ e. serve_cases (λ (j : ℕ) (l : Seen). some_updated l.returns ≡ false) k o b (still k.0) (λ j _ _. still j) (λ j _ _. still j);
    }
  where
    view : v k.0 ≡ (b.lane k.0).line
    view = quiet_view v b f i k.0 r d

    fits : OperationFits (b.lane k.0).line o
    fits = let t = i.wait k.0 in rw w at t

    calm : (j : ℕ) → some_update (b.lane j).downs ≡ false
    calm j = no_update (b.lane j).downs (no_orders (b.lane j) (z j))

    still : (j : ℕ) → some_updated (b.lane j).returns ≡ false
    still j = no_updated (b.lane j).returns (no_answers (b.lane j) (z j))

-- every lane's conjuncts after it
opened_lanes : (v : ℕ → Status) (b : BlockState) (f : List ℕ) (k : LaneNo) (o : Operation) → Inv v b f → (b.lane k.0).waiting ≡ Unserved o →
    (b.lane k.0).downs ≡ [] → b.service ≡ None → ((j : ℕ) → owed (b.lane j) ≡ 0) →
    (j : ℕ) → LaneFits (v j) (Some (opened k o b)) f j ((serve_state k o b).lane j)
opened_lanes v b f k o i w d e z =
    serve_cases (λ (j : ℕ) (l : Seen). LaneFits (v j) (Some (opened k o b)) f j l) k o b
    (served_fits (v k.0) b.service (Some (opened k o b)) f k.0 (b.lane k.0) o (lane_fits v b f i k.0) w d (rw (eq-eqb k.0 k.0 refl)))
    (λ j n _. posted_fits (v j) (Some (opened k o b)) f j (b.lane j) (order_for o) (other j n) (no_orders (b.lane j) (z j)) (order_order o.command) (order_bare o.command))
    (λ j n _. other j n)
  where
    other : (j : ℕ) → j ≢ k.0 → LaneFits (v j) (Some (opened k o b)) f j (b.lane j)
    other j n = other_service (v j) b.service (Some (opened k o b)) f j (b.lane j) (rw (e, ne_eqb k.0 j (λ q. n (sym q)))) (lane_fits v b f i j)

-- serve
pub serve_opens : (v : ℕ → Status) (b : BlockState) (f : List ℕ) (k : LaneNo) (o : Operation) → Inv v b f → k.0 < 8 → (b.lane k.0).waiting ≡ Unserved o →
    (b.lane k.0).returns ≡ [] → b.service ≡ None → Inv v (serve_state k o b) f
serve_opens v b f k o i h w r e =
    record {
      directory = i.directory;
      chain = λ j. (lanes j).chain;
      grant = λ j. (lanes j).grant;
      wait = λ j. (lanes j).wait;
      sole = i.sole;
      bears = λ j. (lanes j).bears;
      main = i.main;
      count = served_count k o b z;
      far = λ j g. served_owed k o b z j ∙ rw (order_far v b.block k o.command i.directory j g);
      service = opened_fits v b f k o i h w r downs z;
    }
  where
    z : (j : ℕ) → owed (b.lane j) ≡ 0
    z = nothing_owed v b f i (rw e)

    downs : (b.lane k.0).downs ≡ []
    downs = let g = i.grant k.0 in let g' = rw (e, w) at g in no_downs (b.lane k.0).downs (no_orders (b.lane k.0) (z k.0)) (omega arith)

    lanes : (j : ℕ) → LaneFits (v j) (Some (opened k o b)) f j ((serve_state k o b).lane j)
    lanes = opened_lanes v b f k o i w downs e z
