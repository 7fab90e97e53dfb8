-- A queue that a frame goes to is one of the device's queue pairs.
use Rattle.std.proofs.Common.{◌≡◌, ℕ, ◌/◌, ◌<◌, Option, Some, None, refl, arith}
use Rattle.std.specs.Prelude.{IfSome, IsTrue}
use Rattle.std.specs.Option.{option_map_or}
use Rattle.std.proofs.lemmas.List.Elements.{All-contains, All-from_recursion}
use Rattle.ff_headers.specs.Frames.{HeaderBytes}
use Rattle.ff_headers.specs.Places.{RuleEntry, IsFirst, first_rule, action_with, action_of}
use Rattle.ff_headers.specs.declared.rule.Action.TheVariants as actions
use Rattle.ff_headers.specs.declared.rule.RuleAction.{RuleAction}
use Rattle.ff_headers.specs.declared.rule.RuleAction.TheVariants as rule_actions
use Rattle.ff_headers.proofs.EntryLemmas.{entry_from_held}
use Rattle.ff_headers.proofs.PlaceLemmas.{first_rule_is_first}
use Rattle.cap_table.specs.States.{DeviceState, IsValid, QueuesWithin, is_receive_queue}

-- a rule that queues names a receive queue, and its pair is the one that the frame goes to
below_pairs : (pairs queue : ℕ) (action : RuleAction) (vq : ℕ) → (action ≡ rule_actions.Queue → IsTrue (is_receive_queue pairs vq)) → action_with action vq ≡ actions.Queue queue → queue < pairs
below_pairs pairs queue rule_actions.Drop vq within is = absurd cc
below_pairs pairs queue rule_actions.Queue vq within is =
    let receives = within refl in
    let half : vq / 2 ≡ queue = cc in
    grind arith

module _ (state : DeviceState) (valid : IsValid state) (headers : HeaderBytes) (queue : ℕ) where
  by_rule : (rule : Option RuleEntry) → IfSome rule (IsFirst state.objects headers) → option_map_or (λ (entry : RuleEntry). action_with entry.1.action entry.1.vq) rule actions.Default ≡ actions.Queue queue → queue < state.caps.pairs
  by_rule None first is = absurd cc
  by_rule (Some entry) first is =
      let held = entry_from_held state.objects.rules entry.0 entry.1 first.matching.is_held in
      let all = All-from_recursion (QueuesWithin state.caps.pairs) state.objects.rules valid.queues in
      below_pairs state.caps.pairs queue entry.1.action entry.1.vq (All-contains (QueuesWithin state.caps.pairs) state.objects.rules (entry.0, entry.1) all held) is

  pub queue-below : action_of state.objects headers ≡ actions.Queue queue → queue < state.caps.pairs
  unfolding action_of
  queue-below is = by_rule (first_rule state.objects headers) (first_rule_is_first state.objects headers valid.objects.by_id.rules_rise) is
