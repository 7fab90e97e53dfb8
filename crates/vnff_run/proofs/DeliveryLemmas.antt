-- Frames that are delivered one after another, and sinks that are finished behind them.
use Rattle.std.proofs.Common.{◌≡◌, ◌≢◌, ℕ, ◌+◌, ◌<◌, ◌≤◌, List, [], ◌∷◌, ◌++◌, length, take, Option, Some, None, Result, Ok, Err, refl, sym, ap, ◌∙◌, subst, inl, inr, ◌⊎◌, ⊎_elim, arith}
use Rattle.std.specs.Prelude.{IfOk, OnErr, OnOk, slice_get, slice_index}
use Rattle.std.specs.Result.{IsErrAnd, result_and}
use Rattle.std.proofs.lemmas.Bool.{cases_eq}
use Rattle.std.proofs.lemmas.List.{length-take-le, take_all, take_more}
use Rattle.std.proofs.lemmas.Option.{get_or_from_slice_get}
use Rattle.ff_headers.specs.Objects.{FlowObjects}
use Rattle.ff_headers.specs.declared.rule.Action.{Action}
use Rattle.ff_headers.specs.declared.rule.Action.TheVariants.{Default, Drop, Queue}
use Rattle.vnff_base.specs.Counts.{Rose}
use Rattle.rx_sinks.specs.Racks.{FinishesFirst, FirstSinks, OneRose, OneSink, sink_at}
use Rattle.rx_sinks.specs.Sinks.{Delivers, Faulted, Follows, IsFinished, SinkState, appended, delivered, finished}
use Rattle.rx_sinks.proofs.RackLemmas.{first_weaker}
use Rattle.rx_sinks.proofs.SinkLaws.{appended-append, appended-nil, finished_follows, follows-finished, follows-later, follows-same, rose_before, rose_later}
use Rattle.vnff_run.specs.Deliveries.{AllDelivered, DeliversAll, FinishesAll, FrontDelivered, OneDelivered, OneFaulted}
use Rattle.vnff_run.specs.Steering.{AllSteered, FrontSteered, Steering, frame_queue, queue_of, sink_list}
use Rattle.vnff_run.specs.Tallies.{IsTallyOf}
use Rattle.vnff_run.specs.declared.tally.Tally.{Tally}
use Rattle.vnff_run.proofs.TallyLemmas.{few_dropped, few_listed, list_none, list_other, list_same}

-- the first sinks were changed, and then changed again
first_then : {pairs : ℕ} {P Q R : ℕ → SinkState → SinkState → Type 0} {old now new : List SinkState} → FirstSinks pairs P old now → FirstSinks pairs Q now new → ((q : ℕ) (a b c : SinkState) → P q a b → Q q b c → R q a c) → FirstSinks pairs R old new
first_then {old = old} {now = now} {new = new} before next both = record {
  count = next.count ∙ before.count;
  first = λ q below. both q (sink_at old q) (sink_at now q) (sink_at new q) (before.first q below) (next.first q below);
  rest = λ q above. next.rest q above ∙ before.rest q above;
}

-- one of the first sinks was changed
abbrev AtQueue : ℕ → (SinkState → SinkState → Type 0) → ℕ → SinkState → SinkState → Type 0
AtQueue queue Changed q a b = ((q ≡ queue) × Changed a b) ⊎ ((q ≢ queue) × (b ≡ a))

one_first : {queue pairs : ℕ} {Changed : SinkState → SinkState → Type 0} {old new : List SinkState} → OneSink queue Changed old new → queue < pairs → FirstSinks pairs (AtQueue queue Changed) old new
one_first {queue = queue} {Changed = Changed} {old = old} {new = new} changed within = record {
  count = changed.count;
  first = λ q below. ⊎_elim
      (λ (same : q ≡ queue). inl (same, subst (λ k. Changed (sink_at old k) (sink_at new k)) (sym same) changed.one))
      (λ (other : q ≢ queue). inr (other, changed.others q other))
      (cases_eq q queue);
  rest = λ q above. changed.others q (λ same. absurd (omega arith));
}

-- ---- frames one after another

-- each of the first sinks got the frames that go to it
abbrev pub Got : ℕ → FlowObjects → List (List ℕ) → List SinkState → List SinkState → Type 0
Got pairs objects frames old new = FirstSinks pairs (λ q a b. b ≡ appended a (sink_list objects frames q)) old new

pub got_none : (pairs : ℕ) (objects : FlowObjects) (sinks : List SinkState) → Got pairs objects [] sinks sinks
unfolding sink_list
got_none pairs objects sinks = record { count = refl; first = λ q below. sym (appended-nil (sink_at sinks q)); rest = λ q above. refl }

-- one more frame
pub got_more : {old now new : List SinkState} (pairs : ℕ) (objects : FlowObjects) (frames : List (List ℕ)) (frame : List ℕ) (to : Option ℕ) → Got pairs objects frames old now → OneDelivered to frame now new → frame_queue objects frame ≡ to → ((q : ℕ) → to ≡ Some q → q < pairs) → Got pairs objects (frames ++ frame ∷ []) old new
got_more {old = old} pairs objects frames frame None got same is within =
    subst (λ s. Got pairs objects (frames ++ frame ∷ []) old s) (sym same)
    (first_weaker (λ q a b so. so ∙ ap (appended a) (sym (list_none objects frames frame q is))) got)
got_more pairs objects frames frame (Some k) got one is within =
    first_then got (one_first one (within k refl)) (λ q a b c so next. ⊎_elim
    (λ (at : (q ≡ k) × (c ≡ delivered b frame)).
    at.1 ∙ ap (λ s. appended s (frame ∷ [])) so ∙ appended-append a (sink_list objects frames q) (frame ∷ [])
    ∙ ap (appended a) (sym (list_same objects frames frame q k is at.0)))
    (λ (off : (q ≢ k) × (c ≡ b)). off.1 ∙ so ∙ ap (appended a) (sym (list_other objects frames frame q k is off.0)))
    next)

-- all frames
pub got_all : {old new : List SinkState} (pairs : ℕ) (objects : FlowObjects) (frames : List (List ℕ)) (i : ℕ) → length frames ≤ i → Got pairs objects (take i frames) old new → Got pairs objects frames old new
got_all {old = old} {new = new} pairs objects frames i all got = subst (λ fs. Got pairs objects fs old new) (take_all i frames all) got

-- a frame that a sink failed to take
pub got_failed : {old now new : List SinkState} (pairs : ℕ) (objects : FlowObjects) (frames : List (List ℕ)) (to : Option ℕ) → Got pairs objects frames old now → OneFaulted to now new → ((q : ℕ) → to ≡ Some q → q < pairs) → FirstSinks pairs (λ q a b. Follows (appended a (sink_list objects frames q)) b) old new × OneRose pairs old new
got_failed pairs objects frames None got failed within = absurd failed
got_failed {old = old} {new = new} pairs objects frames (Some k) got one within = (
  first_then got (one_first one (within k refl)) (λ q a b c so next. ⊎_elim
      (λ (at : (q ≡ k) × Faulted b c). subst (λ s. Follows s c) so at.1.follows)
      (λ (off : (q ≢ k) × (c ≡ b)). subst (Follows (appended a (sink_list objects frames q))) (sym (off.1 ∙ so)) (follows-same (appended a (sink_list objects frames q))))
      next),
  (k, within k refl, subst (λ s. Rose s.faults (sink_at new k).faults) (got.first k (within k refl)) one.one.rose),
)

-- a rack's answer
pub ok_delivered : {A E : Type 0} (queue : ℕ) (frame : List ℕ) (old new : List SinkState) (result : Result A E) → OneSink queue (λ a b. Delivers a b frame result) old new → OnOk result (OneDelivered (Some queue) frame old new)
ok_delivered queue frame old new (Ok x) one = one
ok_delivered queue frame old new (Err e) one = tt

pub err_faulted : {A E : Type 0} (queue : ℕ) (frame : List ℕ) (old new : List SinkState) (result : Result A E) → OneSink queue (λ a b. Delivers a b frame result) old new → OnErr result (OneFaulted (Some queue) old new)
err_faulted queue frame old new (Ok x) one = tt
err_faulted queue frame old new (Err e) one = one

-- a loop over frames stops at a failure
pub fails_at : {A E : Type 0} (run : Steering) (old new : List SinkState) (i : ℕ) (result : Result A E) (Q : E → Type 0) → IsErrAnd result Q → FirstSinks run.pairs (λ q a b. Follows (appended a (sink_list run.objects (take i run.frames) q)) b) old new × OneRose run.pairs old new → DeliversAll run old new result
fails_at run old new i (Ok x) Q failed stopped = absurd failed
fails_at run old new i (Err e) Q failed stopped = ((i, stopped.0), stopped.1)

-- the frames up to and with one
pub front_more : (frames : List (List ℕ)) (i : ℕ) (frame : List ℕ) → i < length frames → Some frame ≡ slice_get frames i → take (i + 1) frames ≡ take i frames ++ frame ∷ []
front_more frames i frame within is =
    take_more frames i frame within ∙ ap (λ f. take i frames ++ f ∷ []) (get_or_from_slice_get frames i frame frame (sym is))

-- a queue is below the queue pairs, of which there is one
pub queue_within : (action : Action) (pairs : ℕ) → 1 ≤ pairs → ((queue : ℕ) → action ≡ Queue queue → queue < pairs) → (q : ℕ) → queue_of action ≡ Some q → q < pairs
queue_within Default pairs some below q is = let zero_is : 0 ≡ q = cc in omega (arith, zero_is, some)
queue_within Drop pairs some below q is = absurd (cc)
queue_within (Queue queue) pairs some below q is = let same : queue ≡ q = cc in omega (arith, same, below queue refl)

-- counts have room for one more frame
pub room_queue : (objects : FlowObjects) (frames : List (List ℕ)) (i : ℕ) (tally : Tally) (q : ℕ) → IsTallyOf objects (take i frames) tally → q < 16 → i < length frames → length frames < 18446744073709551616 → slice_index tally.queues q < 18446744073709551615
room_queue objects frames i tally q so below within few =
    omega (arith, so.queues q below, few_listed objects (take i frames) q, length-take-le i frames (omega (arith, within)), within, few)

pub room_dropped : (objects : FlowObjects) (frames : List (List ℕ)) (i : ℕ) (tally : Tally) → IsTallyOf objects (take i frames) tally → i < length frames → length frames < 18446744073709551616 → tally.dropped < 18446744073709551615
room_dropped objects frames i tally so within few =
    omega (arith, so.dropped, few_dropped objects (take i frames), length-take-le i frames (omega (arith, within)), within, few)

-- ---- sinks that are finished

-- all that was delivered is a front
all_front : {old new : List SinkState} (run : Steering) → AllDelivered run old new → FrontDelivered run old new
all_front run got = (length run.frames, first_weaker (λ q a b so. subst (λ fs. Follows (appended a (sink_list run.objects fs q)) b) (sym (take_all (length run.frames) run.frames (omega arith))) (subst (Follows (appended a (sink_list run.objects run.frames q))) (sym so) (follows-same (appended a (sink_list run.objects run.frames q))))) got)

-- What was delivered, or the front that was, is a front.
front_of : {A E : Type 0} (old new : List SinkState) (run : Steering) (answer : Result A E) → DeliversAll run old new answer → FrontDelivered run old new
front_of old new run (Ok x) got = all_front run got
front_of old new run (Err e) got = got.0

-- what was finished, whatever that answered
each_finished : {A E : Type 0} (old new : List SinkState) (pairs : ℕ) (finish : Result A E) → FinishesFirst pairs old new finish → FirstSinks pairs (λ _ a b. IsFinished a b) old new
each_finished old new pairs (Ok x) ended = first_weaker (λ q a b same. inl same) ended
each_finished old new pairs (Err e) ended = ended.each

-- a front that was delivered, and then finished
front_finished : {A B E F : Type 0} (old now new : List SinkState) (run : Steering) (answer : Result A E) (finish : Result B F) → DeliversAll run old now answer → FinishesFirst run.pairs now new finish → FrontSteered run old new
front_finished old now new run answer finish got ended =
    let front = front_of old now run answer got in
    (front.0, first_then front.1 (each_finished now new run.pairs finish ended) (λ q a b c so next. follows-later (follows-finished so) (finished_follows b c next)))

-- a count that rose before the sinks were finished
rose_first : {A E : Type 0} (old now new : List SinkState) (pairs : ℕ) (finish : Result A E) → OneRose pairs old now → FinishesFirst pairs now new finish → OneRose pairs old new
rose_first old now new pairs finish (q, below, rose) ended =
    let follows = finished_follows (sink_at now q) (sink_at new q) ((each_finished now new pairs finish ended).first q below) in
    (q, below, rose_later (sink_at old q).faults (sink_at now q).faults (sink_at new q).faults rose follows.faults)

-- or then
rose_then : {A E : Type 0} (old now new : List SinkState) (run : Steering) (answer : Result A E) → DeliversAll run old now answer → OneRose run.pairs now new → OneRose run.pairs old new
rose_then old now new run answer got (q, below, rose) =
    let front = front_of old now run answer got in
    (q, below, rose_before (sink_at old q).faults (sink_at now q).faults (sink_at new q).faults (front.1.first q below).faults rose)

-- frames were delivered, or a front of them, and then the sinks were finished
finished_all : {A B E : Type 0} (old now new : List SinkState) (run : Steering) (answer : Result A E) (finish : Result B E) → DeliversAll run old now answer → FinishesFirst run.pairs now new finish → FinishesAll run old new (result_and finish answer)
finished_all old now new run (Ok x) (Ok y) got ended =
    first_then got ended (λ q a b c so next. next ∙ ap finished so)
finished_all {A = A} {B = B} {E = E} old now new run (Err e) (Ok y) got ended =
    let answer : Result A E = Err e in
    let finish : Result B E = Ok y in
    (front_finished old now new run answer finish got ended, rose_first old now new run.pairs finish got.1 ended)
finished_all {A = A} {B = B} {E = E} old now new run (Ok x) (Err f) got ended =
    let answer : Result A E = Ok x in
    let finish : Result B E = Err f in
    (front_finished old now new run answer finish got ended, rose_then old now new run answer got ended.rose)
finished_all {A = A} {B = B} {E = E} old now new run (Err e) (Err f) got ended =
    let answer : Result A E = Err e in
    let finish : Result B E = Err f in
    (front_finished old now new run answer finish got ended, rose_first old now new run.pairs finish got.1 ended)

pub finishes_all : {A B E : Type 0} (old now new : List SinkState) (run : Steering) (pairs : ℕ) (answer : Result A E) (finish : Result B E) → run.pairs ≡ pairs → DeliversAll run old now answer → FinishesFirst pairs now new finish → FinishesAll run old new (result_and finish answer)
finishes_all old now new run pairs answer finish same got ended =
    finished_all old now new run answer finish got (subst (λ n. FinishesFirst n now new finish) (sym same) ended)

-- the number of sinks stays
pub delivers_count : {A E : Type 0} (run : Steering) (old new : List SinkState) (result : Result A E) → DeliversAll run old new result → length new ≡ length old
delivers_count run old new (Ok x) got = got.count
delivers_count run old new (Err e) got = got.0.1.count

-- what holds of the last answer
pub and_if_ok : {A B E : Type 0} (finish : Result B E) (answer : Result A E) (P : A → Type 0) → IfOk answer P → IfOk (result_and finish answer) P
and_if_ok (Ok y) answer P holds = holds
and_if_ok (Err f) answer P holds = tt

-- all that was steered is a front
pub all_steered : {old new : List SinkState} (run : Steering) → AllSteered run old new → FrontSteered run old new
all_steered run all = (
  length run.frames,
  first_weaker (λ q a b so. subst (λ fs. Follows (finished (appended a (sink_list run.objects fs q))) b) (sym (take_all (length run.frames) run.frames (omega arith)))
      (subst (Follows (finished (appended a (sink_list run.objects run.frames q)))) (sym so) (follows-same (finished (appended a (sink_list run.objects run.frames q)))))) all,
)

-- a sink that failed among the first is one of all
pub rose_among : (old new : List SinkState) (pairs n : ℕ) → pairs ≤ n → OneRose pairs old new → OneRose n old new
rose_among old new pairs n few (q, below, rose) = (q, omega (arith, below, few), rose)
