-- How often each action happened. This project's own.
use Rattle.std.specs.Prelude.{ℕ, ◌<◌, slice_index, Bool, true, false, ◌==◌, List, map, count_by}
use Rattle.std.specs.List.{range_with_len}
use Rattle.ff_headers.specs.declared.rule.Action.{Action}
use Rattle.ff_headers.specs.declared.rule.Action.TheVariants.{Default, Drop, Queue}
use Rattle.cap_table.specs.Caps.{most_pairs}
use Rattle.generated_load.specs.declared.counts.ActionCounts.{ActionCounts}

abbrev pub is_drop : Action → Bool
is_drop Drop = true
is_drop _ = false

abbrev pub is_default : Action → Bool
is_default Default = true
is_default _ = false

-- the queue of the number, which no rule's default is
abbrev pub is_queue : ℕ → Action → Bool
is_queue number (Queue queue) = queue == number
is_queue number _ = false

-- each count is below a limit
pub record AreBelow (limit : ℕ) (counts : ActionCounts) : Type 0 where
  pub drop : counts.drop < limit
  pub default : counts.default < limit
  pub queues : (queue : ℕ) → slice_index counts.queues queue < limit

-- how many of the actions are drops, defaults, and each of the queues that a device may have
unfoldable pub counts_of : List Action → ActionCounts
counts_of actions = record {
  drop = count_by is_drop actions;
  default = count_by is_default actions;
  queues = map (λ number. count_by (is_queue number) actions) (range_with_len 0 most_pairs);
}
