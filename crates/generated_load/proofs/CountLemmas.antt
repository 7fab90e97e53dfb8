-- Counts of actions, one more at a time.
use Rattle.std.proofs.Common.{◌≡◌, ℕ, ◌+◌, ◌<◌, ◌≤◌, ◌⊎◌, Bool, true, false, cond, List, [], ◌∷◌, ◌++◌, length, map, get_or, set, count_by, ◌≢◌, eqb, refl, sym, ap, ◌∙◌, inl, inr, ⊎_elim, zero-add, add-zero, eq-eqb, subst, arith}
use Rattle.std.specs.Prelude.{◌==◌}
use Rattle.std.specs.List.{range_with_len}
use Rattle.std.proofs.lemmas.Bool.{cases_lt}
use Rattle.std.proofs.lemmas.Bool.Decides.{eqb_tells}
use Rattle.std.proofs.lemmas.List.{ext_get_or, get_or_past, get_or-set_other, get_or-set_same, length-set}
use Rattle.std.proofs.lemmas.List.FromFn.{get_or-map-range_with_len, length-map-range_with_len}
use Rattle.std.proofs.lemmas.List.Sums.{count_by-le-length, sum_by-append}
use Rattle.ff_headers.specs.declared.rule.Action.{Action}
use Rattle.ff_headers.specs.declared.rule.Action.TheVariants.{Default, Drop, Queue}
use Rattle.generated_load.specs.Counts.{AreBelow, counts_of, is_default, is_drop, is_queue}
use Rattle.generated_load.specs.declared.counts.ActionCounts.{ActionCounts}

-- different numbers
ne-eqb : (a b : ℕ) → a ≢ b → eqb a b ≡ false
ne-eqb a b other = by_cases (eqb_tells a b) where
  by_cases : ((eqb a b ≡ true) × (a ≡ b)) ⊎ ((eqb a b ≡ false) × (a ≢ b)) → eqb a b ≡ false
  by_cases (inl same) = absurd (other same.1)
  by_cases (inr apart) = apart.0

-- one more action is counted where it passes
pub count_more : (p : Action → Bool) (actions : List Action) (action : Action) → count_by p (actions ++ action ∷ []) ≡ count_by p actions + cond (p action) 1 0
count_more p actions action = sum_by-append (λ a. cond (p a) 1 0) actions (action ∷ []) ∙ ap (λ n. count_by p actions + n) (zero-add (cond (p action) 1 0))

-- ---- the counts of queues

-- those of the queues from 0 on
abbrev pub queue_counts : List Action → List ℕ
queue_counts actions = map (λ number. count_by (is_queue number) actions) (range_with_len 0 16)

pub queue_counts-length : (actions : List Action) → length (queue_counts actions) ≡ 16
queue_counts-length actions = length-map-range_with_len (λ number. count_by (is_queue number) actions) 0 16

pub queue_counts-at : (actions : List Action) (queue d : ℕ) → queue < 16 → get_or (queue_counts actions) queue d ≡ count_by (is_queue queue) actions
queue_counts-at actions queue d within = get_or-map-range_with_len (λ number. count_by (is_queue number) actions) 0 16 queue queue d within (zero-add queue)

queue_counts-small : (actions : List Action) (queue : ℕ) → get_or (queue_counts actions) queue 0 ≤ length actions
queue_counts-small actions queue =
    ⊎_elim
    (λ inside. rw (queue_counts-at actions queue 0 inside) (count_by-le-length (is_queue queue) actions))
    (λ past. rw (get_or_past (queue_counts actions) queue 0 (omega (arith, past, queue_counts-length actions))) (omega arith))
    (cases_lt queue 16)

-- actions that are no queue's leave them
pub queues_same : (actions : List Action) (action : Action) → ((number : ℕ) → number < 16 → is_queue number action ≡ false) → queue_counts (actions ++ action ∷ []) ≡ queue_counts actions
queues_same actions action none =
    ext_get_or 0 (queue_counts (actions ++ action ∷ [])) (queue_counts actions) (queue_counts-length (actions ++ action ∷ []) ∙ sym (queue_counts-length actions)) each where
      each : (i : ℕ) → i < length (queue_counts (actions ++ action ∷ [])) → get_or (queue_counts (actions ++ action ∷ [])) i 0 ≡ get_or (queue_counts actions) i 0
      each i within =
          let inside : i < 16 = omega (arith, within, queue_counts-length (actions ++ action ∷ [])) in
          queue_counts-at (actions ++ action ∷ []) i 0 inside
          ∙ count_more (is_queue i) actions action
          ∙ ap (λ b. count_by (is_queue i) actions + cond b 1 0) (none i inside)
          ∙ (let e : count_by (is_queue i) actions + 0 ≡ count_by (is_queue i) actions = omega arith in e)
          ∙ sym (queue_counts-at actions i 0 inside)

queues_past : (actions : List Action) (queue : ℕ) → 16 ≤ queue → queue_counts (actions ++ Queue queue ∷ []) ≡ queue_counts actions
queues_past actions queue past = queues_same actions (Queue queue) (λ number inside. ne-eqb queue number (omega (arith, past, inside)))

-- the count of the action's queue rises
pub queues_more : (actions : List Action) (queue : ℕ) → queue < 16 → set (queue_counts actions) queue (get_or (queue_counts actions) queue 0 + 1) ≡ queue_counts (actions ++ Queue queue ∷ [])
queues_more actions queue place =
    ext_get_or 0 (set (queue_counts actions) queue (get_or (queue_counts actions) queue 0 + 1)) (queue_counts (actions ++ Queue queue ∷ []))
    (length-set (queue_counts actions) queue (get_or (queue_counts actions) queue 0 + 1) ∙ queue_counts-length actions ∙ sym (queue_counts-length (actions ++ Queue queue ∷ []))) each where
      risen : (i : ℕ) → count_by (is_queue i) (actions ++ Queue queue ∷ []) ≡ count_by (is_queue i) actions + cond (queue == i) 1 0
      risen i = count_more (is_queue i) actions (Queue queue)

      by_place : (i : ℕ) → i < 16 → ((eqb queue i ≡ true) × (queue ≡ i)) ⊎ ((eqb queue i ≡ false) × (queue ≢ i)) → get_or (set (queue_counts actions) queue (get_or (queue_counts actions) queue 0 + 1)) i 0 ≡ count_by (is_queue i) (actions ++ Queue queue ∷ [])
      by_place i inside (inl is) =
          rw (← is.1)
          (get_or-set_same (queue_counts actions) queue (get_or (queue_counts actions) queue 0 + 1) 0 (omega (arith, place, queue_counts-length actions))
          ∙ ap (λ n. n + 1) (queue_counts-at actions queue 0 place)
          ∙ sym (risen queue ∙ ap (λ b. count_by (is_queue queue) actions + cond b 1 0) (eq-eqb queue queue refl)))
      by_place i inside (inr other) =
          get_or-set_other (queue_counts actions) queue i (get_or (queue_counts actions) queue 0 + 1) 0 (λ e. other.1 (sym e))
          ∙ queue_counts-at actions i 0 inside
          ∙ sym (risen i ∙ ap (λ b. count_by (is_queue i) actions + cond b 1 0) other.0 ∙ (let e : count_by (is_queue i) actions + 0 ≡ count_by (is_queue i) actions = omega arith in e))

      each : (i : ℕ) → i < length (set (queue_counts actions) queue (get_or (queue_counts actions) queue 0 + 1)) → get_or (set (queue_counts actions) queue (get_or (queue_counts actions) queue 0 + 1)) i 0 ≡ get_or (queue_counts (actions ++ Queue queue ∷ [])) i 0
      each i within =
          let inside : i < 16 = omega (arith, within, length-set (queue_counts actions) queue (get_or (queue_counts actions) queue 0 + 1), queue_counts-length actions) in
          by_place i inside (eqb_tells queue i)
          ∙ sym (queue_counts-at (actions ++ Queue queue ∷ []) i 0 inside)

-- ---- all counts

same_counts : (d e f h : ℕ) (q r : List ℕ) → d ≡ e → f ≡ h → q ≡ r → ◌≡◌ {A = ActionCounts} (record { drop = d; default = f; queues = q }) (record { drop = e; default = h; queues = r })
same_counts d e f h q r drops defaults queues = rw (drops, defaults, queues) refl

module _ (counts : ActionCounts) (actions : List Action) (is : counts ≡ counts_of actions) where
  -- no count is more than the actions
  pub counts-below : (limit : ℕ) → length actions < limit → AreBelow limit counts
  unfolding counts_of
  counts-below limit few =
      subst (AreBelow limit) (sym is) (record {
        drop = omega (arith, few, count_by-le-length is_drop actions);
        default = omega (arith, few, count_by-le-length is_default actions);
        queues = λ queue. omega (arith, few, queue_counts-small actions queue);
      })

  pub counts-drop : record counts { drop = counts.drop + 1 } ≡ counts_of (actions ++ Drop ∷ [])
  unfolding counts_of
  counts-drop =
      rw is
      (same_counts _ _ _ _ _ _ (sym (count_more is_drop actions Drop)) (sym (count_more is_default actions Drop ∙ add-zero _)) (sym (queues_same actions Drop (λ number inside. refl))))

  pub counts-default : record counts { default = counts.default + 1 } ≡ counts_of (actions ++ Default ∷ [])
  unfolding counts_of
  counts-default =
      rw is
      (same_counts _ _ _ _ _ _ (sym (count_more is_drop actions Default ∙ add-zero _)) (sym (count_more is_default actions Default)) (sym (queues_same actions Default (λ number inside. refl))))

  pub counts-queue : (queue : ℕ) → queue < 16 → record counts { queues = set counts.queues queue (get_or counts.queues queue 0 + 1) } ≡ counts_of (actions ++ Queue queue ∷ [])
  unfolding counts_of
  counts-queue queue place =
      rw is
      (same_counts _ _ _ _ _ _ (sym (count_more is_drop actions (Queue queue) ∙ add-zero _)) (sym (count_more is_default actions (Queue queue) ∙ add-zero _)) (queues_more actions queue place))

  -- a queue past the last one leaves them
  pub counts-past : (queue : ℕ) → 16 ≤ queue → counts ≡ counts_of (actions ++ Queue queue ∷ [])
  unfolding counts_of
  counts-past queue past =
      is
      ∙ same_counts _ _ _ _ _ _ (sym (count_more is_drop actions (Queue queue) ∙ add-zero _)) (sym (count_more is_default actions (Queue queue) ∙ add-zero _)) (sym (queues_past actions queue past))
