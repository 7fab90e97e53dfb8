-- Frames that go to queues, one more after another, and their counts.
use Rattle.std.proofs.Common.{◌≡◌, ◌≢◌, ℕ, Bool, zero, suc, ◌+◌, ◌<◌, ◌≤◌, List, [], ◌∷◌, ◌++◌, length, set, Option, Some, None, refl, sym, ap, ◌∙◌, append-nil, length-append, ⊎_elim, arith, eq-eqb}
use Rattle.std.specs.Prelude.{if◌then◌else◌, filter, is_none, not, slice_index, ◌==◌}
use Rattle.std.specs.List.{flat_map, range_with_len}
use Rattle.std.proofs.lemmas.Bool.{cases_eq, cond-false, cond-true, ne_eqb}
use Rattle.std.proofs.lemmas.List.{get_or-replicate, get_or-set_other, get_or-set_same, length-set}
use Rattle.std.proofs.lemmas.List.Elements.{filter-append}
use Rattle.std.proofs.lemmas.List.Filters.{length-filter_both}
use Rattle.ff_headers.specs.Objects.{FlowObjects}
use Rattle.vnff_run.specs.Steering.{Steering, drop_line, dropped_list, frame_queue, is_for, queue_line, sink_line, sink_list, steer_text}
use Rattle.vnff_run.specs.Tallies.{IsTallyOf, count_line, no_frames, tally_text, tally_with}
use Rattle.vnff_run.specs.declared.tally.Tally.{Tally}

-- ---- one more frame

-- the frame, for the queue that it goes to
abbrev pub frame_for : ℕ → Option ℕ → List ℕ → List (List ℕ)
frame_for queue to frame = if is_for queue to then frame ∷ [] else []

frame_for-same : (queue k : ℕ) (frame : List ℕ) → queue ≡ k → frame_for queue (Some k) frame ≡ frame ∷ []
frame_for-same queue k frame same = cond-true (k == queue) _ _ (eq-eqb k queue (sym same))

frame_for-other : (queue k : ℕ) (frame : List ℕ) → queue ≢ k → frame_for queue (Some k) frame ≡ []
frame_for-other queue k frame other = cond-false (k == queue) _ _ (ne_eqb k queue (λ e. absurd (other (sym e))))

list_more : (objects : FlowObjects) (frames : List (List ℕ)) (frame : List ℕ) (queue : ℕ) (to : Option ℕ) → frame_queue objects frame ≡ to → sink_list objects (frames ++ frame ∷ []) queue ≡ sink_list objects frames queue ++ frame_for queue to frame
unfolding sink_list
list_more objects frames frame queue to is =
    filter-append (λ f. is_for queue (frame_queue objects f)) frames (frame ∷ [])
    ∙ ap (λ t. filter (λ f. is_for queue (frame_queue objects f)) frames ++ frame_for queue t frame) is

-- a queue to which the frame goes, and one to which it doesn't
pub list_same : (objects : FlowObjects) (frames : List (List ℕ)) (frame : List ℕ) (queue k : ℕ) → frame_queue objects frame ≡ Some k → queue ≡ k → sink_list objects (frames ++ frame ∷ []) queue ≡ sink_list objects frames queue ++ frame ∷ []
list_same objects frames frame queue k is same =
    list_more objects frames frame queue (Some k) is ∙ ap (λ t. sink_list objects frames queue ++ t) (frame_for-same queue k frame same)

pub list_other : (objects : FlowObjects) (frames : List (List ℕ)) (frame : List ℕ) (queue k : ℕ) → frame_queue objects frame ≡ Some k → queue ≢ k → sink_list objects (frames ++ frame ∷ []) queue ≡ sink_list objects frames queue
list_other objects frames frame queue k is other =
    list_more objects frames frame queue (Some k) is ∙ ap (λ t. sink_list objects frames queue ++ t) (frame_for-other queue k frame other) ∙ append-nil (sink_list objects frames queue)

pub list_none : (objects : FlowObjects) (frames : List (List ℕ)) (frame : List ℕ) (queue : ℕ) → frame_queue objects frame ≡ None → sink_list objects (frames ++ frame ∷ []) queue ≡ sink_list objects frames queue
list_none objects frames frame queue is = list_more objects frames frame queue None is ∙ append-nil (sink_list objects frames queue)

dropped_more : (objects : FlowObjects) (frames : List (List ℕ)) (frame : List ℕ) (to : Option ℕ) → frame_queue objects frame ≡ to → dropped_list objects (frames ++ frame ∷ []) ≡ dropped_list objects frames ++ (if is_none to then frame ∷ [] else [])
unfolding dropped_list
dropped_more objects frames frame to is =
    filter-append (λ f. is_none (frame_queue objects f)) frames (frame ∷ [])
    ∙ ap (λ t. filter (λ f. is_none (frame_queue objects f)) frames ++ (if is_none t then frame ∷ [] else [])) is

-- ---- counts

length_one : (frames : List (List ℕ)) (frame : List ℕ) → length (frames ++ frame ∷ []) ≡ length frames + 1
length_one frames frame = length-append frames (frame ∷ [])

-- no list of frames that go somewhere has more than all frames
pub few_listed : (objects : FlowObjects) (frames : List (List ℕ)) (queue : ℕ) → length (sink_list objects frames queue) ≤ length frames
unfolding sink_list
few_listed objects frames queue =
    let p : List ℕ → Bool = λ f. is_for queue (frame_queue objects f) in
    omega (arith, length-filter_both p (λ f. not (p f)) (λ f. refl) frames)

pub few_dropped : (objects : FlowObjects) (frames : List (List ℕ)) → length (dropped_list objects frames) ≤ length frames
unfolding dropped_list
few_dropped objects frames =
    let p : List ℕ → Bool = λ f. is_none (frame_queue objects f) in
    omega (arith, length-filter_both p (λ f. not (p f)) (λ f. refl) frames)

-- no frame
pub tally_none : (objects : FlowObjects) → IsTallyOf objects [] no_frames
unfolding sink_list dropped_list
tally_none objects = record { count = refl; queues = λ q below. get_or-replicate 16 q 0 0 below; dropped = refl }

-- one more frame, which goes to a queue or to none
pub tally_more : (objects : FlowObjects) (frames : List (List ℕ)) (frame : List ℕ) (tally : Tally) (to : Option ℕ) → IsTallyOf objects frames tally → frame_queue objects frame ≡ to → ((q : ℕ) → to ≡ Some q → q < 16) → IsTallyOf objects (frames ++ frame ∷ []) (tally_with tally to)
tally_more objects frames frame tally None so is within = record {
  count = so.count;
  queues = λ q below. so.queues q below ∙ sym (ap length (list_none objects frames frame q is));
  dropped = ap (λ n. n + 1) so.dropped ∙ sym (ap length (dropped_more objects frames frame None is) ∙ length_one (dropped_list objects frames) frame);
}
tally_more objects frames frame tally (Some k) so is within =
    let below_k = within k refl in
    let inside : k < length tally.queues = omega (arith, so.count, below_k) in
    record {
      count = length-set tally.queues k (slice_index tally.queues k + 1) ∙ so.count;
      queues = λ q below. ⊎_elim
          (λ (same : q ≡ k). ap (λ j. slice_index (set tally.queues k (slice_index tally.queues k + 1)) j) same
          ∙ get_or-set_same tally.queues k (slice_index tally.queues k + 1) 0 inside
          ∙ ap (λ n. n + 1) (so.queues k below_k)
          ∙ ap (λ j. length (sink_list objects frames j) + 1) (sym same)
          ∙ sym (ap length (list_same objects frames frame q k is same) ∙ length_one (sink_list objects frames q) frame))
          (λ (other : q ≢ k). get_or-set_other tally.queues k q (slice_index tally.queues k + 1) 0 other
          ∙ so.queues q below
          ∙ sym (ap length (list_other objects frames frame q k is other)))
          (cases_eq q k);
      dropped = so.dropped ∙ sym (ap length (dropped_more objects frames frame (Some k) is ∙ append-nil (dropped_list objects frames)));
    }

-- ---- their text

lines_same : (f g : ℕ → List ℕ) (start n : ℕ) → ((q : ℕ) → q < start + n → f q ≡ g q) → flat_map f (range_with_len start n) ≡ flat_map g (range_with_len start n)
lines_same f g start zero same = refl
lines_same f g start (suc n) same =
    ap (λ t. t ++ flat_map f (range_with_len (start + 1) n)) (same start (omega arith))
    ∙ ap (λ t. g start ++ t) (lines_same f g (start + 1) n (λ q below. same q (omega (arith, below))))

-- the text of the counts of all frames is that of the steering
pub text_is : (run : Steering) (pairs : ℕ) (tally : Tally) → IsTallyOf run.objects run.frames tally → pairs ≡ run.pairs → pairs ≤ 16 → tally_text pairs tally ≡ steer_text run
unfolding steer_text
text_is run pairs tally so same few =
    ap (λ t. t ++ drop_line tally.dropped) (lines_same (count_line tally) (sink_line run) 0 pairs (λ q below. ap (queue_line q) (so.queues q (omega (arith, below, few)))))
    ∙ ap (λ n. flat_map (sink_line run) (range_with_len 0 n) ++ drop_line tally.dropped) same
    ∙ ap (λ n. flat_map (sink_line run) (range_with_len 0 run.pairs) ++ drop_line n) so.dropped
