-- Selectors are read one after another, and their types rise.
use Rattle.std.proofs.Common.{◌≡◌, ℕ, ◌+◌, ◌<◌, ◌≤◌, true, false, List, [], ◌∷◌, ◌++◌, length, drop, Result, Ok, Err, refl, sym, ap, ◌∙◌, append_assoc, append-nil, arith, ⊎_elim, subst}
use Rattle.std.specs.List.{All}
use Rattle.std.specs.List.Sorted.{IsStrictlyIncreasing}
use Rattle.std.proofs.Math.Seq.{get_or-append_seam}
use Rattle.std.proofs.lemmas.Bool.{cases_lt}
use Rattle.std.proofs.lemmas.List.{map-append, length-append, get_or_append_left}
use Rattle.std.proofs.lemmas.List.Elements.{All-nil, All-cons, All-append, All-weaker, All-get_or}
use Rattle.ff_headers.specs.Kinds.{kind_code}
use Rattle.ff_headers.specs.SelectorParts.{SelectorParts, IsWhole}
use Rattle.ff_headers.specs.Shapes.{codes_of}
use Rattle.ff_headers.specs.declared.kind.Kind.{Kind}
use Rattle.ff_headers.specs.declared.kind.Kind.TheVariants.{Eth, Ipv4, Ipv6, Tcp, Udp}
use Rattle.cap_table.specs.Caps.{AreSelectors}
use Rattle.vnff_base.specs.Lines.{NumberedLine}
use Rattle.vnff_run.proofs.GrammarLemmas.{small_first, small_rest}
use Rattle.vnff_run.specs.Grammar.{at_line, first_selectors}
use Rattle.vnff_run.specs.Readings.{IsScriptFault}
use Rattle.vnff_run.specs.Results.{◌>>=◌}
use Rattle.vnff_run.specs.SelectLines.{is_select, selector_in_line}
use Rattle.vnff_run.specs.declared.error.Reason.{Reason}
use Rattle.vnff_run.specs.declared.error.ScriptFault.{ScriptFault}
use Rattle.vnff_run.specs.declared.error.ScriptFault.TheVariants as faults

-- selectors whose types rise, up to `last`
pub record RiseTo (last : ℕ) (selectors : List SelectorParts) : Type 0 where
  pub good : AreSelectors selectors
  pub below : All (λ code. code ≤ last) (codes_of selectors)
  pub few : length selectors ≤ last

-- there are five types
pub few_codes : (kind : Kind) → kind_code kind ≤ 5
few_codes Eth = omega arith
few_codes Ipv4 = omega arith
few_codes Ipv6 = omega arith
few_codes Tcp = omega arith
few_codes Udp = omega arith

-- no selector yet
pub none_rise : RiseTo 0 []
none_rise = record {
  good = record { rising = λ k inside. absurd (omega arith); whole = All-nil IsWhole };
  below = All-nil (λ code. code ≤ 0);
  few = omega arith;
}

-- a list that rises up to a number, and a larger number
rises_on : (codes : List ℕ) (last code : ℕ) → IsStrictlyIncreasing codes → All (λ c. c ≤ last) codes → last < code → IsStrictlyIncreasing (codes ++ code ∷ [])
rises_on codes last code rising below above =
    λ k inside. let long = length-append codes (code ∷ []) in
    ⊎_elim (λ within. rw (get_or_append_left codes (code ∷ []) 0 k (omega arith), get_or_append_left codes (code ∷ []) 0 (k + 1) within) (rising k within))
    (λ past. let end : k + 1 ≡ length codes = omega (arith, inside, long) in
    let least = All-get_or (λ c. c ≤ last) codes k 0 (omega (arith, end)) below in
    rw (get_or_append_left codes (code ∷ []) 0 k (omega (arith, end)), end, get_or-append_seam codes code [] 0) (omega (arith, least, above)))
    (cases_lt (k + 1) (length codes))

-- one more selector, whose type is above the last
pub one_more_rises : (last : ℕ) (selectors : List SelectorParts) (selector : SelectorParts) → RiseTo last selectors → last < kind_code selector.kind → IsWhole selector → RiseTo (kind_code selector.kind) (selectors ++ selector ∷ [])
one_more_rises last selectors selector rise above whole =
    let code = kind_code selector.kind in
    let codes = map-append (λ s. kind_code s.kind) selectors (selector ∷ []) in
    record {
      good = record {
        rising = subst IsStrictlyIncreasing (sym codes) (rises_on (codes_of selectors) last code rise.good.rising rise.below above);
        whole = All-append IsWhole selectors (selector ∷ []) rise.good.whole (All-cons IsWhole selector [] whole (All-nil IsWhole));
      };
      below = subst (All (λ c. c ≤ code)) (sym codes) (All-append (λ c. c ≤ code) (codes_of selectors) (code ∷ []) (All-weaker (λ c. c ≤ last) (λ c. c ≤ code) (λ c least. omega (arith, least, above)) (codes_of selectors) rise.below) (All-cons (λ c. c ≤ code) code [] (omega arith) (All-nil (λ c. c ≤ code))));
      few = omega (arith, length-append selectors (selector ∷ []), rise.few, above);
    }

-- selectors in front of those that lines name
abbrev pub selectors_then : List SelectorParts → Result (List SelectorParts × List NumberedLine) (ℕ × Reason) → Result (List SelectorParts × List NumberedLine) (ℕ × Reason)
selectors_then selectors spelled = spelled >>= λ more. Ok (selectors ++ more.0, more.1)

selectors_then-push : (selectors : List SelectorParts) (selector : SelectorParts) (spelled : Result (List SelectorParts × List NumberedLine) (ℕ × Reason)) → selectors_then selectors (spelled >>= λ more. Ok (selector ∷ more.0, more.1)) ≡ selectors_then (selectors ++ selector ∷ []) spelled
selectors_then-push selectors selector (Ok more) = ap (λ all. Ok (all, more.1)) (sym (append_assoc selectors (selector ∷ []) more.0))
selectors_then-push selectors selector (Err fault) = refl

-- no selector in front
pub selectors_then-none : (spelled : Result (List SelectorParts × List NumberedLine) (ℕ × Reason)) → selectors_then [] spelled ≡ spelled
selectors_then-none (Ok more) = refl
selectors_then-none (Err fault) = refl

-- one more line names a selector
pub first_selectors-more : (last number : ℕ) (selectors : List SelectorParts) (left lines : List NumberedLine) (words rest : List (List ℕ)) (selector : SelectorParts) → left ≡ record { number = number; words = words } ∷ lines → is_select words ≡ true → drop 1 words ≡ rest → at_line number (selector_in_line last rest) ≡ Ok selector → selectors_then selectors (first_selectors last left) ≡ selectors_then (selectors ++ selector ∷ []) (first_selectors (kind_code selector.kind) lines)
unfolding first_selectors
first_selectors-more last number selectors left lines words rest selector cut begins cut_words is =
    rw (cut, begins, cut_words, is) (selectors_then-push selectors selector (first_selectors (kind_code selector.kind) lines))

-- a line names none
pub first_selectors-stop : (fault : ScriptFault) (last number : ℕ) (selectors : List SelectorParts) (left lines : List NumberedLine) (words rest : List (List ℕ)) (spelled : Result (List SelectorParts × List NumberedLine) (ℕ × Reason)) → left ≡ record { number = number; words = words } ∷ lines → is_select words ≡ true → drop 1 words ≡ rest → selectors_then selectors (first_selectors last left) ≡ spelled → IsScriptFault (at_line number (selector_in_line last rest)) fault → IsScriptFault spelled fault
unfolding first_selectors
first_selectors-stop (faults.Bad at reason) last number selectors left lines words rest spelled cut begins cut_words same is =
    sym same ∙ rw (cut, begins, cut_words, is) refl
first_selectors-stop faults.Memory last number selectors left lines words rest spelled cut begins cut_words same is = tt

-- the line behind the last one that names a selector
pub first_selectors-other : (last number : ℕ) (selectors : List SelectorParts) (left lines : List NumberedLine) (words : List (List ℕ)) → left ≡ record { number = number; words = words } ∷ lines → is_select words ≡ false → selectors_then selectors (first_selectors last left) ≡ Ok (selectors, record { number = number; words = words } ∷ lines)
unfolding first_selectors
first_selectors-other last number selectors left lines words cut other =
    rw (cut, other) (ap (λ all. Ok (all, record { number = number; words = words } ∷ lines)) (append-nil selectors))

-- no line is left
pub first_selectors-end : (last : ℕ) (selectors : List SelectorParts) (left : List NumberedLine) → left ≡ [] → selectors_then selectors (first_selectors last left) ≡ Ok (selectors, [])
unfolding first_selectors
first_selectors-end last selectors left none = rw none (ap (λ all. Ok (all, [])) (append-nil selectors))

pub ruleset select_steps = (small_first, small_rest, none_rise, one_more_rises, few_codes, selectors_then-none, first_selectors-more, first_selectors-stop, first_selectors-other, first_selectors-end)
