-- Changes of one sink and of the first sinks, step by step.
use Rattle.std.proofs.Common.{◌≡◌, ℕ, ◌+◌, ◌<◌, ◌≤◌, List, length, get_or, set, map, Result, Ok, Err, refl, ap, sym, ◌∙◌, subst, arith, inl, inr, ⊎_elim}
use Rattle.std.proofs.lemmas.Bool.{cases_lt}
use Rattle.std.proofs.lemmas.List.{map-set, length-map, get_or-map, get_or-set_other, get_or-set_same, length-set}
use Rattle.std.specs.Result.{result_and}
use Rattle.vnff_base.specs.Counts.{Rose}
use Rattle.rx_sinks.specs.Sinks.{SinkState, finished, Faulted, Finishes, IsFinished}
use Rattle.rx_sinks.specs.Racks.{no_sink, sink_at, OneSink, FirstSinks, OneRose, OneFailed, FinishesFirst}

-- one of several sinks was changed
pub one_sink : {S : Type 0} (state : S → SinkState) (Changed : SinkState → SinkState → Type 0) (sinks : List S) (queue : ℕ) (old new : S) → queue < length sinks → old ≡ get_or sinks queue old → Changed (state old) (state new) → OneSink queue Changed (map state sinks) (map state (set sinks queue new))
one_sink state Changed sinks queue old new within is changed =
    let written = map-set state sinks queue new in
    let inside : queue < length (map state sinks) = omega (arith, length-map sinks state) in
    let was : state old ≡ sink_at (map state sinks) queue = ap state is ∙ sym (get_or-map state sinks queue old no_sink within) in
    let now : state new ≡ sink_at (map state (set sinks queue new)) queue = sym (ap (λ xs. sink_at xs queue) written ∙ get_or-set_same (map state sinks) queue (state new) no_sink inside) in
    record {
      count = length-map (set sinks queue new) state ∙ length-set sinks queue new ∙ sym (length-map sinks state);
      one = subst (λ b. Changed (sink_at (map state sinks) queue) b) now (subst (λ a. Changed a (state new)) was changed);
      others = λ q other. ap (λ xs. sink_at xs q) written ∙ get_or-set_other (map state sinks) queue q (state new) no_sink other;
    }

-- no sink was changed
pub first_none : (Changed : ℕ → SinkState → SinkState → Type 0) (sinks : List SinkState) → FirstSinks 0 Changed sinks sinks
first_none Changed sinks = record { count = refl; first = λ q below. absurd (omega arith); rest = λ q above. refl }

-- the first sinks were changed, and then the next one
pub first_more : {pairs : ℕ} {Changed : ℕ → SinkState → SinkState → Type 0} {old now new : List SinkState} → FirstSinks pairs Changed old now → OneSink pairs (Changed pairs) now new → FirstSinks (pairs + 1) Changed old new
first_more {pairs = pairs} {Changed = Changed} {old = old} {now = now} {new = new} before next = record {
  count = next.count ∙ before.count;
  first = λ q below. ⊎_elim
      (λ (inner : q < pairs). subst (Changed q (sink_at old q)) (sym (next.others q (λ same. absurd (omega arith)))) (before.first q inner))
      (λ (outer : pairs ≤ q). let last : pairs ≡ q = omega arith in
      subst (λ k. Changed k (sink_at old k) (sink_at new k)) last (subst (λ a. Changed pairs a (sink_at new pairs)) (before.rest pairs (omega arith)) next.one))
      (cases_lt q pairs);
  rest = λ q above. next.others q (λ same. absurd (omega arith)) ∙ before.rest q (omega arith);
}

-- what holds of each change
pub first_weaker : {pairs : ℕ} {P Q : ℕ → SinkState → SinkState → Type 0} {old new : List SinkState} → ((q : ℕ) (a b : SinkState) → P q a b → Q q a b) → FirstSinks pairs P old new → FirstSinks pairs Q old new
first_weaker {old = old} {new = new} weaker changed =
    record { count = changed.count; first = λ q below. weaker q (sink_at old q) (sink_at new q) (changed.first q below); rest = changed.rest }

pub one_weaker : {queue : ℕ} {P Q : SinkState → SinkState → Type 0} {old new : List SinkState} → ((a b : SinkState) → P a b → Q a b) → OneSink queue P old new → OneSink queue Q old new
one_weaker {queue = queue} {old = old} {new = new} weaker changed =
    record { count = changed.count; one = weaker (sink_at old queue) (sink_at new queue) changed.one; others = changed.others }

-- A count that rose among the first sinks stands there after the next one.
rose_more : {Changed : SinkState → SinkState → Type 0} (pairs : ℕ) (old now new : List SinkState) → OneRose pairs old now → OneSink pairs Changed now new → OneRose (pairs + 1) old new
rose_more pairs old now new (q, below, rose) next =
    (q, omega arith, subst (λ b. Rose (sink_at old q).faults b.faults) (sym (next.others q (λ same. absurd (omega arith)))) rose)

-- The first sinks were finished, and then the next one without a failure.
finished_more : {A E : Type 0} (pairs : ℕ) (old now new : List SinkState) (answer : Result A E) → FinishesFirst pairs old now answer → OneSink pairs (λ a b. b ≡ finished a) now new → FinishesFirst (pairs + 1) old new answer
finished_more pairs old now new (Ok x) before next = first_more before next
finished_more pairs old now new (Err e) before next =
    record { each = first_more before.each (one_weaker (λ a b same. inl same) next); rose = rose_more pairs old now new before.rose next }

-- what was finished of the first sinks, whatever they answered
each_finished : {A E : Type 0} (pairs : ℕ) (old now : List SinkState) (answer : Result A E) → FinishesFirst pairs old now answer → FirstSinks pairs (λ _ a b. IsFinished a b) old now
each_finished pairs old now (Ok x) before = first_weaker (λ q a b same. inl same) before
each_finished pairs old now (Err e) before = before.each

-- The first sinks were finished, and then the next one, which failed.
failed_more : {A E : Type 0} (pairs : ℕ) (old now new : List SinkState) (answer : Result A E) → FinishesFirst pairs old now answer → OneSink pairs (λ a b. Faulted (finished a) b) now new → OneFailed (pairs + 1) old new
failed_more pairs old now new answer before next =
    let each = each_finished pairs old now answer before in
    record {
      each = first_more each (one_weaker (λ a b failed. inr failed) next);
      rose = (pairs, omega arith, subst (λ a. Rose a.faults (sink_at new pairs).faults) (each.rest pairs (omega arith)) next.one.rose);
    }

-- The first sinks were finished, and then the next one, whatever it answered.
after_next : {E : Type 0} {A : Type 0} (pairs : ℕ) (old now new : List SinkState) (answer result : Result A E) → FinishesFirst pairs old now answer → OneSink pairs (λ a b. Finishes a b result) now new → FinishesFirst (pairs + 1) old new (result_and answer result)
after_next pairs old now new (Ok x) (Ok y) before next = first_more before next
after_next pairs old now new (Err e) (Ok y) before next = finished_more {A = Unit {0}} pairs old now new (Err e) before next
after_next pairs old now new (Ok x) (Err f) before next = failed_more {E = Unit {0}} pairs old now new (Ok x) before next
after_next pairs old now new (Err e) (Err f) before next = failed_more {A = Unit {0}} pairs old now new (Err e) before next

-- The first of several sinks were finished, and then the next one, whatever it answered.
pub finished_next : {S E : Type 0} {A : Type 0} (state : S → SinkState) (pairs : ℕ) (old sinks : List S) (was now : S) (answer result : Result A E) → pairs < length old → FinishesFirst pairs (map state old) (map state sinks) answer → was ≡ get_or sinks pairs was → Finishes (state was) (state now) result → FinishesFirst (pairs + 1) (map state old) (map state (set sinks pairs now)) (result_and answer result)
finished_next state pairs old sinks was now answer result within before is next =
    let each = each_finished pairs (map state old) (map state sinks) answer before in
    let inside : pairs < length sinks = omega (arith, each.count, length-map old state, length-map sinks state) in
    after_next pairs (map state old) (map state sinks) (map state (set sinks pairs now)) answer result before (one_sink state (λ a b. Finishes a b result) sinks pairs was now inside is next)
