-- How plans end.
use Rattle.std.proofs.Common.{◌≡◌, ◌≢◌, ℕ, ◌<◌, ◌≤◌, List, [], ◌∷◌, length, map, leb, Option, Some, None, Result, Ok, Err, refl, sym, ap, ◌∙◌, subst, inl, inr, ⊎_elim, ◌⊎◌, arith}
use Rattle.std.specs.Prelude.{IfSome, IsSomeAnd, MatchOption, false}
use Rattle.std.proofs.lemmas.Bool.{cond-true, cond-false, le-leb, lt-leb}
use Rattle.std.proofs.lemmas.Option.{IfSome_then}
use Rattle.vnff_base.specs.Counts.{Rose}
use Rattle.vnff_base.specs.Outputs.{OutputState, Stopped, Wrote}
use Rattle.vnff_base.specs.Shelves.{Files, ShelfState}
use Rattle.vnff_base.proofs.Writing.{told_after-nil}
use Rattle.cap_table.specs.States.{start_state}
use Rattle.steer.specs.LiveRuns.{accepted_changes}
use Rattle.steer.proofs.LegalRuns.{last_line, legal_run, machine_replies}
use Rattle.vnff_run.specs.Endings.{Appended, AppendedFront, IsStatusOf, IsStatusOfStop, NoReadFailed, NoWriteFailed, ReadFailed, ReadStops, ReadsInput, WhereTold, WriteFailed}
use Rattle.vnff_run.specs.Forms.{WordForm, word_form}
use Rattle.vnff_run.specs.SteerInputs.{is_steer, steering_by, steering_of}
use Rattle.vnff_run.specs.Steering.{Steering}
use Rattle.rx_sinks.specs.Sinks.{SinkState}
use Rattle.vnff_run.specs.Inputs.{Missing, Refused}
use Rattle.vnff_run.specs.LiveRuns.{live_in}
use Rattle.vnff_run.specs.LiveTexts.{live_text}
use Rattle.vnff_run.specs.LiveWords.{LiveWords, live_of}
use Rattle.vnff_run.specs.Outcomes.{fault_outcome, outcome_of, refusal_line, silent_outcome, words_status}
use Rattle.vnff_run.specs.PlanEndings.{EndsAs, LiveEnds, PlanEnds, WherePlanned}
use Rattle.vnff_run.specs.Plans.{Ends, IsText, Lives, Plan, WroteFront, WroteText, live_plan, plan_by, plan_in, plan_of, plan_status}
use Rattle.vnff_run.specs.declared.live_run.LiveRun.{LiveRun}
use Rattle.vnff_run.specs.declared.stop.RefusedInput.{RefusedInput}
use Rattle.vnff_run.specs.declared.stop.Stop.{Stop}
use Rattle.vnff_run.specs.declared.stop.Stop.TheVariants as stops
use Rattle.vnff_run.proofs.EndingLemmas.{where_told, wrote_none}
use Rattle.vnff_run.proofs.InputLemmas.{some_then}

-- ---- texts

-- each plan has a text: that of a live run in which all commands come before any frame
pub legal : (plan : Plan) → (text : List ℕ) × IsText plan text
legal (Ends outcome) = (outcome.text, refl)
legal (Lives run) =
    let replies = machine_replies (start_state run.caps run.start) run.commands in
    let packets = map (last_line run.caps.limits (accepted_changes run.caps run.start run.commands replies)) run.frames in (
      live_text replies packets,
      record {
        replies = replies;
        packets = packets;
        legal = legal_run run.caps run.start run.commands run.frames run.workers run.first;
        printed = refl;
      },
    )

-- nothing is a front of a text
pub no_front : (plan : Plan) (old new : OutputState) → new.told ≡ old.told → WroteFront plan old new
no_front plan old new same =
    let some = legal plan in
    record { text = some.0; planned = some.1; appended = wrote_none old new some.0 same }

-- ---- a live run

-- its end, and what the status is made of it
pub live_status : {A : Type 0} (old middle new : OutputState) (run : LiveRun) (ended : Result A Stop) (status : ℕ) → LiveEnds old middle run ended → IsStatusOf middle new ended status → PlanEnds old new (Lives run) status
live_status old middle new run (Ok x) status ran is =
    inl (record {
      planned = is.0;
      low = omega (arith, is.0);
      wrote = record { text = ran.0; planned = ran.1; appended = is.1.0 ∙ ran.2.told };
      nothing = λ two. absurd (omega (arith, is.0, two));
      faults = is.1.1 ∙ ran.2.faults;
    })
live_status old middle new run (Err stops.ReadFault) status ran is = absurd ran
live_status old middle new run (Err (stops.Refused refusal)) status ran is = absurd ran
live_status old middle new run (Err stops.AlreadyRefused) status ran is = absurd ran
live_status old middle new run (Err stops.WriteFault) status ran is =
    inr (record {
      cause = inl (is.0, subst (λ n. Rose old.faults n) (sym is.1.1) ran.2.rose);
      front = record { text = ran.0; planned = ran.1; appended = (ran.2.told.0, is.1.0 ∙ ran.2.told.1) };
    })
live_status old middle new run (Err stops.SinkFault) status ran is = absurd ran
live_status old middle new run (Err stops.Memory) status ran is =
    inr (record {
      cause = inr (is.0, is.1.1 ∙ ran.0);
      front = record { text = ran.1.text; planned = ran.1.planned; appended = (ran.1.appended.0, is.1.0 ∙ ran.1.appended.1) };
    })

-- as many commands as are to come first
pub plan_lives : (old new : OutputState) (run : LiveRun) (status : ℕ) → run.first ≤ length run.commands → PlanEnds old new (Lives run) status → PlanEnds old new (live_plan (Ok run)) status
plan_lives old new run status enough ended =
    subst (λ plan. PlanEnds old new plan status) (sym (cond-true (leb run.first (length run.commands)) (Lives run) (Ends (silent_outcome words_status)) (le-leb run.first (length run.commands) enough))) ended

-- too few of them
pub plan_refuses : (out : OutputState) (run : LiveRun) → length run.commands < run.first → PlanEnds out out (live_plan (Ok run)) words_status
plan_refuses out run few =
    subst (λ plan. PlanEnds out out plan words_status) (sym (cond-false (leb run.first (length run.commands)) (Lives run) (Ends (silent_outcome words_status)) (lt-leb run.first (length run.commands) few)))
    (inl (record {
      planned = refl;
      low = omega arith;
      wrote = record { text = []; planned = refl; appended = sym (told_after-nil out.told) };
      nothing = λ two. refl;
      faults = refl;
    }))

-- ---- the whole call

-- the input was read, and the plan over it ended
pub live_ends : (sink steers : Type 0) (shelf read : ShelfState) (out new : OutputState) (words : LiveWords) (run : LiveRun) (status : ℕ) → ReadsInput shelf read (live_in words) (Ok run) → PlanEnds out new (live_plan (Ok run)) status → EndsAs sink steers shelf read out new (plan_in words) status
unfolding plan_in
live_ends sink steers shelf read out new words run status was (inl done) =
    let low = done.low in
    let told = λ (P : Plan → Type 0) (p : P (live_plan (Ok run))). IfSome_then shelf.files was.1 (λ files is. subst P (sym (ap live_plan is)) p) in
    record {
      known = omega (arith, low);
      done = λ _. told (λ p. (status ≡ plan_status p) × WroteText p out new) (done.planned, done.wrote);
      complete = told (λ p. (status ≡ plan_status p) ⊎ (status ≡ 5) ⊎ ReadFailed shelf read ⊎ WriteFailed out new ⊎ sink) (inl done.planned);
      read = λ three. absurd (omega (arith, low, three));
      nothing = λ which. ⊎_elim done.nothing (λ three. absurd (omega (arith, low, three))) which;
      write = λ four. absurd (omega (arith, low, four));
      no_read = λ _. was.0;
      no_write = λ _. done.faults;
      front = λ high. absurd (omega (arith, low, high));
    }
live_ends sink steers shelf read out new words run status was (inr cut) =
    let told = λ (P : Plan → Type 0) (p : P (live_plan (Ok run))). IfSome_then shelf.files was.1 (λ files is. subst P (sym (ap live_plan is)) p) in
    let late : 4 ≤ status = ⊎_elim (λ failed. omega (arith, failed.0)) (λ full. omega (arith, full.0)) cut.cause in
    record {
      known = ⊎_elim (λ failed. omega (arith, failed.0)) (λ full. omega (arith, full.0)) cut.cause;
      done = λ low. absurd (omega (arith, low, late));
      complete = told (λ p. (status ≡ plan_status p) ⊎ (status ≡ 5) ⊎ ReadFailed shelf read ⊎ WriteFailed out new ⊎ sink)
          (⊎_elim (λ failed. inr (inr (inr (inl failed.1)))) (λ full. inr (inl full.0)) cut.cause);
      read = λ three. absurd (omega (arith, late, three));
      nothing = λ which. ⊎_elim (λ two. absurd (omega (arith, late, two))) (λ three. absurd (omega (arith, late, three))) which;
      write = λ four. ⊎_elim (λ failed. inl failed.1) (λ full. absurd (omega (arith, full.0, four))) cut.cause;
      no_read = λ _. was.0;
      no_write = λ other. ⊎_elim (λ failed. absurd (other failed.0)) (λ full. full.1) cut.cause;
      front = λ _. told (λ p. WroteFront p out new) cut.front;
    }

-- the plan of what isn't there, or is refused
missing_plan : (words : LiveWords) (files : Files) → live_in words files ≡ Err Missing → plan_in words files ≡ Ends (fault_outcome Missing)
unfolding plan_in
missing_plan words files is = ap live_plan is

refused_plan : (words : LiveWords) (files : Files) (refusal : RefusedInput) → live_in words files ≡ Err (Refused refusal) → plan_in words files ≡ Ends (fault_outcome (Refused refusal))
unfolding plan_in
refused_plan words files refusal is = ap live_plan is

-- the input couldn't be read
pub live_stops : (sink steers : Type 0) (shelf read : ShelfState) (out new : OutputState) (words : LiveWords) (stop : Stop) (status : ℕ) → ReadStops shelf read (live_in words) stop → IsStatusOfStop out new stop status → EndsAs sink steers shelf read out new (plan_in words) status
live_stops sink steers shelf read out new words stops.ReadFault status why is =
    let three : status ≡ 3 = is.0 in
    let missing : ReadFailed shelf read ⊎ IsSomeAnd shelf.files (λ files. plan_status (plan_in words files) ≡ 3) =
    ⊎_elim inl (λ gone. inr (some_then shelf.files gone (λ files not_there. ap plan_status (missing_plan words files not_there)))) why in
    record {
      known = omega (arith, three);
      done = λ low. absurd (omega (arith, three, low));
      complete = ⊎_elim
          (λ rose. where_told shelf.files (λ files. inr (inr (inl rose))))
          (λ gone. told_also shelf.files gone (λ files not_there. inl (three ∙ sym (ap plan_status (missing_plan words files not_there)))))
          why;
      read = λ _. missing;
      nothing = λ _. is.1.0;
      write = λ four. absurd (omega (arith, three, four));
      no_read = λ other. absurd (other three);
      no_write = λ _. is.1.1;
      front = λ high. absurd (omega (arith, three, high));
    }
  where
    told_also : {P Q : Files → Type 0} (told : Option Files) → IsSomeAnd told P → ((files : Files) → P files → Q files) → IfSome told Q
    told_also None some then = tt
    told_also (Some files) some then = then files some
live_stops sink steers shelf read out new words (stops.Refused refusal) status why is = ⊎_elim refused cut is where
  told : (P : Plan → Type 0) → P (Ends (fault_outcome (Refused refusal))) → WherePlanned shelf (plan_in words) P
  told P p = IfSome_then shelf.files why.1 (λ files not_good. subst P (sym (refused_plan words files refusal not_good)) p)

  refused : (status ≡ 1) × Wrote out new (refusal_line refusal) → EndsAs sink steers shelf read out new (plan_in words) status
  refused wrote = record {
    known = omega (arith, wrote.0);
    done = λ _. told (λ p. (status ≡ plan_status p) × WroteText p out new) (wrote.0, record { text = refusal_line refusal; planned = refl; appended = wrote.1.told });
    complete = told (λ p. (status ≡ plan_status p) ⊎ (status ≡ 5) ⊎ ReadFailed shelf read ⊎ WriteFailed out new ⊎ sink) (inl wrote.0);
    read = λ three. absurd (omega (arith, wrote.0, three));
    nothing = λ which. ⊎_elim (λ two. absurd (omega (arith, wrote.0, two))) (λ three. absurd (omega (arith, wrote.0, three))) which;
    write = λ four. absurd (omega (arith, wrote.0, four));
    no_read = λ _. why.0;
    no_write = λ _. wrote.1.faults;
    front = λ high. absurd (omega (arith, wrote.0, high));
  }

  cut : (status ≡ 4) × Stopped out new (refusal_line refusal) → EndsAs sink steers shelf read out new (plan_in words) status
  cut stopped = record {
    known = omega (arith, stopped.0);
    done = λ low. absurd (omega (arith, stopped.0, low));
    complete = told (λ p. (status ≡ plan_status p) ⊎ (status ≡ 5) ⊎ ReadFailed shelf read ⊎ WriteFailed out new ⊎ sink) (inr (inr (inr (inl stopped.1.rose))));
    read = λ three. absurd (omega (arith, stopped.0, three));
    nothing = λ which. ⊎_elim (λ two. absurd (omega (arith, stopped.0, two))) (λ three. absurd (omega (arith, stopped.0, three))) which;
    write = λ _. inl stopped.1.rose;
    no_read = λ _. why.0;
    no_write = λ other. absurd (other stopped.0);
    front = λ _. told (λ p. WroteFront p out new) (record { text = refusal_line refusal; planned = refl; appended = stopped.1.told });
  }
live_stops sink steers shelf read out new words stops.AlreadyRefused status why is = absurd why
live_stops sink steers shelf read out new words stops.WriteFault status why is = absurd why
live_stops sink steers shelf read out new words stops.SinkFault status why is = absurd why
live_stops sink steers shelf read out new words stops.Memory status why is =
    let five : status ≡ 5 = is.0 in
    record {
      known = omega (arith, five);
      done = λ low. absurd (omega (arith, five, low));
      complete = where_told shelf.files (λ files. inr (inl five));
      read = λ three. absurd (omega (arith, five, three));
      nothing = λ which. ⊎_elim (λ two. absurd (omega (arith, five, two))) (λ three. absurd (omega (arith, five, three))) which;
      write = λ four. absurd (omega (arith, five, four));
      no_read = λ _. why;
      no_write = λ _. is.1.1;
      front = λ _. where_told shelf.files (λ files. no_front (plan_in words files) out new is.1.0);
    }

-- ---- words

-- the words of a live run are no other form
pub live_words_alone : (words : List (List ℕ)) (live : LiveWords) → live_of words ≡ Some live → word_form words ≡ None
unfolding live_of word_form
live_words_alone [] live is = absurd (cc)
live_words_alone (a ∷ []) live is = absurd (cc)
live_words_alone (a ∷ b ∷ []) live is = absurd (cc)
live_words_alone (a ∷ b ∷ c ∷ []) live is = absurd (cc)
live_words_alone (a ∷ b ∷ c ∷ d ∷ []) live is = absurd (cc)
live_words_alone (a ∷ b ∷ c ∷ d ∷ e ∷ []) live is = refl
live_words_alone (a ∷ b ∷ c ∷ d ∷ e ∷ f ∷ words) live is = absurd (cc)

-- where no sink can fail, any may be said to
any_sinks : (sink steers : Type 0) (shelf read : ShelfState) (out new : OutputState) (plan : Files → Plan) (status : ℕ) → EndsAs ⊥ ⊥ shelf read out new plan status → EndsAs sink steers shelf read out new plan status
any_sinks sink steers shelf read out new plan status ended = record {
  known = ended.known;
  done = ended.done;
  complete = IfSome_then shelf.files ended.complete (λ files done. ⊎_elim inl (λ more. inr (⊎_elim inl (λ most. inr (⊎_elim inl (λ last. inr (⊎_elim inl (λ none. absurd none) last)) most)) more)) done);
  read = ended.read;
  nothing = ended.nothing;
  write = λ four. ⊎_elim inl (λ none. absurd none) (ended.write four);
  no_read = ended.no_read;
  no_write = ended.no_write;
  front = ended.front;
}

-- a live run is the plan of its words
pub plan_of_live : (sink steers : Type 0) (shelf read : ShelfState) (out new : OutputState) (words : List (List ℕ)) (live : LiveWords) (status : ℕ) → live_of words ≡ Some live → EndsAs ⊥ ⊥ shelf read out new (plan_in live) status → EndsAs sink steers shelf read out new (plan_of words) status
plan_of_live sink steers shelf read out new words live status is ended =
    subst (λ (found : Option LiveWords). EndsAs sink steers shelf read out new (plan_by found words) status) (sym is) (any_sinks sink steers shelf read out new (plan_in live) status ended)

-- other words have one outcome
pub plan_of_plain : (sink steers : Type 0) (shelf read : ShelfState) (out new : OutputState) (words : List (List ℕ)) (status : ℕ) → live_of words ≡ None
    → status ≤ 5 → (status ≡ 2 → new.told ≡ out.told)
    → (status ≤ 2 → WhereTold shelf (outcome_of words) (λ end. (status ≡ end.status) × Appended out new end.text))
    → WhereTold shelf (outcome_of words) (λ end. (status ≡ end.status) ⊎ (status ≡ 5) ⊎ ReadFailed shelf read ⊎ WriteFailed out new ⊎ sink)
    → (status ≡ 3 → ReadFailed shelf read ⊎ IsSomeAnd shelf.files (λ files. (outcome_of words files).status ≡ 3))
    → (status ≡ 3 → new.told ≡ out.told) → (status ≡ 4 → WriteFailed out new ⊎ steers)
    → (status ≢ 3 → NoReadFailed shelf read) → (status ≢ 4 → NoWriteFailed out new)
    → (4 ≤ status → WhereTold shelf (outcome_of words) (λ end. AppendedFront out new end.text))
    → EndsAs sink steers shelf read out new (plan_of words) status
plan_of_plain sink steers shelf read out new words status is known nothing done complete missing unread write no_read no_write front =
    subst (λ (found : Option LiveWords). EndsAs sink steers shelf read out new (plan_by found words) status) (sym is) (record {
      known = known;
      done = λ low. IfSome_then shelf.files (done low) (λ files end. (end.0, record { text = (outcome_of words files).text; planned = refl; appended = end.1 }));
      complete = complete;
      read = missing;
      nothing = λ which. ⊎_elim nothing unread which;
      write = write;
      no_read = no_read;
      no_write = no_write;
      front = λ high. IfSome_then shelf.files (front high) (λ files end. record { text = (outcome_of words files).text; planned = refl; appended = end });
    })

-- what words of no steering leave: each sink
pub no_steering : (old new : List SinkState) (shelf : ShelfState) (words : List (List ℕ)) (P : Steering → Type 0) → word_form words ≡ None → new ≡ old → IfSome shelf.files (λ files. MatchOption (steering_of words files) (new ≡ old) P)
no_steering old new shelf words P none same =
    where_told shelf.files (λ files. subst (λ (form : Option WordForm). MatchOption (steering_by form files) (new ≡ old) P) (sym none) same)

-- and they are none
pub no_steer : (words : List (List ℕ)) → word_form words ≡ None → is_steer (word_form words) ≡ false
no_steer words none = ap is_steer none
