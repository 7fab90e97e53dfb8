-- What isn't refused can be set, and stays within what the device offers.
use Rattle.std.proofs.Common.{◌≡◌, refl, sym, arith, Bool, true, false, not, cond, ◌||◌, Some, None, Result, Ok, Err, IsOk, All}
use Rattle.std.specs.Result.{result_err}
use Rattle.std.proofs.lemmas.Bool.Decides.{nat_tests}
use Rattle.arrayvec.specs.ArrayVec.{ArrayVec}
use Rattle.ff_headers.specs.declared.limits.Limits.{Limits}
use Rattle.ff_headers.specs.SelectorParts.{SelectorParts, IsWhole}
use Rattle.ff_headers.specs.Shapes.{codes_of}
use Rattle.ff_headers.proofs.Rising.{increasing_from_rises}
use Rattle.admin_wire.specs.declared.command.CapData.{CapData}
use Rattle.admin_wire.specs.declared.command.CapData.TheVariants as caps
use Rattle.admin_wire.specs.declared.command.RawList.{RawList}
use Rattle.admin_wire.specs.declared.command.RawList.TheVariants.{Good, Odd}
use Rattle.admin_wire.specs.LaidOut.{HasCapLayout}
use Rattle.cap_table.specs.Caps.{CapsParts, DriverParts, AtMost, AreSelectors}
use Rattle.cap_table.specs.CapSets.{is_some_above, cap_fault, IsRising, IsSettable, with_cap, IsDriverWithin}
use Rattle.cap_table.specs.declared.error.CapErr.{CapErr}

-- ---- what isn't refused can be set

-- where neither of two faults is found, the first test fails
first_holds : {X : Type 0} (rises missing beyond : Bool) (first second : X)
    → cond (not rises || missing) (Some first) (cond beyond (Some second) None) ≡ None → rises ≡ true
first_holds true missing beyond first second none = refl
first_holds false missing beyond first second none = absurd cc

pub settable_if_no_fault : (device : CapsParts) (wanted : CapData) → cap_fault device wanted ≡ None → IsSettable wanted
unfolding cap_fault
settable_if_no_fault device (caps.Limits limits) none = tt
settable_if_no_fault device (caps.Selectors (Good list)) none =
    increasing_from_rises (codes_of list.items) (first_holds _ _ _ _ _ none)
settable_if_no_fault device (caps.Selectors Odd) none = absurd cc
settable_if_no_fault device (caps.Actions actions) none = tt
settable_if_no_fault device (caps.Other id) none = absurd cc

-- the same of an answer
pub settable : (device : CapsParts) (wanted : CapData) (answer : Result Unit CapErr)
    → result_err answer ≡ cap_fault device wanted → IsOk answer → IsSettable wanted
settable device wanted (Ok x) first ok = settable_if_no_fault device wanted (sym first)
settable device wanted (Err e) first ok = absurd cc

-- a list that can be set, of whole masks, is one that a capability can have
pub selectors_that_rise : (list : ArrayVec SelectorParts) → IsRising (Good list) → All IsWhole list.items
    → AreSelectors list.items
selectors_that_rise list rising whole = record { rising = rising; whole = whole }

-- ---- what is set stays within what the device offers

none_above : (most limits : Limits) → is_some_above most limits ≡ false → AtMost limits most
none_above most limits none = record {
  groups = grind (arith, nat_tests);
  classifiers = grind (arith, nat_tests);
  rules = grind (arith, nat_tests);
  per_group = grind (arith, nat_tests);
  last_priority = grind (arith, nat_tests);
  selectors = grind (arith, nat_tests);
}

test_fails : {X : Type 0} (test : Bool) (fault : X) → cond test (Some fault) None ≡ None → test ≡ false
test_fails true fault none = absurd cc
test_fails false fault none = refl

-- the masks of a list have their headers' sizes
abbrev pub IsWholeList : RawList → Type 0
IsWholeList (Good list) = All IsWhole list.items
IsWholeList Odd = Unit {0}

abbrev pub IsWholeCap : CapData → Type 0
IsWholeCap (caps.Selectors list) = IsWholeList list
IsWholeCap _ = Unit {0}

pub within_if_whole : (device : CapsParts) (driver : DriverParts) (wanted : CapData) → IsWholeCap wanted
    → cap_fault device wanted ≡ None → IsDriverWithin device driver → IsDriverWithin device (with_cap driver wanted)
unfolding cap_fault
within_if_whole device driver (caps.Limits limits) whole none within =
    record { limits = none_above device.limits limits (test_fails _ _ none); selectors = within.selectors }
within_if_whole device driver (caps.Selectors (Good list)) whole none within = record {
  limits = within.limits;
  selectors = selectors_that_rise list (settable_if_no_fault device (caps.Selectors (Good list)) none) whole;
}
within_if_whole device driver (caps.Selectors Odd) whole none within = absurd cc
within_if_whole device driver (caps.Actions actions) whole none within =
    record { limits = within.limits; selectors = within.selectors }
within_if_whole device driver (caps.Other id) whole none within = absurd cc

whole_if_laid_out : (wanted : CapData) → HasCapLayout wanted → IsWholeCap wanted
whole_if_laid_out (caps.Limits limits) has = tt
whole_if_laid_out (caps.Selectors (Good list)) has = has.1
whole_if_laid_out (caps.Selectors Odd) has = tt
whole_if_laid_out (caps.Actions actions) has = tt
whole_if_laid_out (caps.Other id) has = tt

pub within_if_no_fault : (device : CapsParts) (driver : DriverParts) (wanted : CapData) → HasCapLayout wanted
    → cap_fault device wanted ≡ None → IsDriverWithin device driver → IsDriverWithin device (with_cap driver wanted)
within_if_no_fault device driver wanted has = within_if_whole device driver wanted (whole_if_laid_out wanted has)
