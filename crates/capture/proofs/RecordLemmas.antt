-- Facts on reading records, one after another.
use Rattle.std.proofs.Common.{◌≡◌, ℕ, zero, suc, ◌+◌, ◌<◌, ◌≤◌, Bool, false, List, [], ◌∷◌, ◌++◌, length, drop, Some, None, Result, Ok, Err, refl, ap, ◌∙◌, eqb, arith, ⊎_elim}
use Rattle.std.proofs.lemmas.List.{length-drop, drop-drop, append_assoc, append-nil}
use Rattle.std.proofs.lemmas.Bool.{cases_Bool, cond-false, eqb-false, eqb-true}
use Rattle.capture.specs.declared.error.CaptureErr.{CaptureErr}
use Rattle.capture.specs.Records.{◌>>=◌, map_ok, with_front, frame_of, next_of, records_within, records_of}

bind_same : {A B : Type 0} (read : Result A CaptureErr) (f g : A → Result B CaptureErr) → ((x : A) → f x ≡ g x) → (read >>= f) ≡ (read >>= g)
bind_same (Ok x) f g same = same x
bind_same (Err e) f g same = refl

bind_cons : (frame : List ℕ) (read : Result (List (List ℕ)) CaptureErr) → (read >>= λ frames. Ok (frame ∷ frames)) ≡ map_ok (λ frames. frame ∷ frames) read
bind_cons frame (Ok frames) = refl
bind_cons frame (Err e) = refl

-- what is left behind a record
pub shorter : (b : ℕ) (bs frame : List ℕ) (n : ℕ) → length (b ∷ bs) ≤ suc n → length (drop (16 + length frame) (b ∷ bs)) ≤ n
shorter b bs frame n enough = omega (arith, length-drop (16 + length frame) (b ∷ bs))

-- As many turns as there are bytes are enough.
pub records_within-enough : (m n : ℕ) (big : Bool) (at : ℕ) (bytes : List ℕ) → length bytes ≤ m → length bytes ≤ n → records_within m big at bytes ≡ records_within n big at bytes
records_within-enough m n big at [] enough more = refl
records_within-enough zero n big at (b ∷ bs) enough more = absurd (omega arith)
records_within-enough (suc m) zero big at (b ∷ bs) enough more = absurd (omega arith)
records_within-enough (suc m) (suc n) big at (b ∷ bs) enough more =
    bind_same (frame_of big at (b ∷ bs)) _ _ (λ frame. ap (λ read. read >>= λ frames. Ok (frame ∷ frames)) (records_within-enough m n big _ (drop (16 + length frame) (b ∷ bs)) (shorter b bs frame m enough) (shorter b bs frame n more)))

-- no record
pub records_of-end : (big : Bool) (at : ℕ) (bytes : List ℕ) → length bytes ≡ 0 → records_of big at bytes ≡ Ok []
unfolding records_of
records_of-end big at [] none = refl
records_of-end big at (b ∷ bs) none = absurd (omega arith)

-- a record that is read, and the records behind it
pub records_of-more : (big : Bool) (at : ℕ) (bytes frame : List ℕ) → 0 < length bytes → frame_of big at bytes ≡ Ok frame → records_of big at bytes ≡ map_ok (λ frames. frame ∷ frames) (records_of big (at + (16 + length frame)) (drop (16 + length frame) bytes))
unfolding records_of
records_of-more big at [] frame some read = absurd (omega arith)
records_of-more big at (b ∷ bs) frame some read =
    let rest = drop (16 + length frame) (b ∷ bs) in
    ap (λ first. first >>= λ x. (records_within (length bs) big (at + (16 + length x)) (drop (16 + length x) (b ∷ bs)) >>= λ frames. Ok (x ∷ frames))) read ∙ (bind_cons frame (records_within (length bs) big (at + (16 + length frame)) rest) ∙ ap (map_ok (λ frames. frame ∷ frames)) (records_within-enough (length bs) (length rest) big (at + (16 + length frame)) rest (shorter b bs frame (length bs) (omega arith)) (omega arith)))

-- a record at fault
pub records_of-bad : (big : Bool) (at : ℕ) (bytes : List ℕ) (fault : CaptureErr) → 0 < length bytes → frame_of big at bytes ≡ Err fault → records_of big at bytes ≡ Err fault
unfolding records_of
records_of-bad big at [] fault some read = absurd (omega arith)
records_of-bad big at (b ∷ bs) fault some read = rw read refl

-- what the next record tells of the records from an offset on
some_left : (file : List ℕ) (at : ℕ) → at ≤ length file → eqb at (length file) ≡ false → 0 < length (drop at file)
some_left file at within other = let e = length-drop at file in let ne = eqb-false at (length file) other in grind arith

bind_some : (read : Result (List ℕ) CaptureErr) (frame : List ℕ) → Ok (Some frame) ≡ (read >>= λ x. Ok (Some x)) → read ≡ Ok frame
bind_some (Ok x) frame same = cc
bind_some (Err e) frame same = absurd (cc)

bind_none : (read : Result (List ℕ) CaptureErr) → Ok None ≡ (read >>= λ x. Ok (Some x)) → ⊥
bind_none (Ok x) same = cc
bind_none (Err e) same = cc

bind_err : (read : Result (List ℕ) CaptureErr) (fault : CaptureErr) → Err fault ≡ (read >>= λ x. Ok (Some x)) → read ≡ Err fault
bind_err (Ok x) fault same = absurd (cc)
bind_err (Err e) fault same = cc

pub next_of-more : (big : Bool) (file : List ℕ) (at : ℕ) (frame : List ℕ) → at ≤ length file → Ok (Some frame) ≡ next_of big file at → records_of big at (drop at file) ≡ map_ok (λ frames. frame ∷ frames) (records_of big (at + (16 + length frame)) (drop (at + (16 + length frame)) file))
unfolding next_of
next_of-more big file at frame within next =
    ⊎_elim (λ end. absurd (cc))
    (λ other. let read = bind_some (frame_of big at (drop at file)) frame (next ∙ cond-false _ _ _ other) in
    records_of-more big at (drop at file) frame (some_left file at within other) read ∙ ap (λ rest. map_ok (λ frames. frame ∷ frames) (records_of big (at + (16 + length frame)) rest)) (drop-drop (16 + length frame) at file))
    (cases_Bool (eqb at (length file)))

pub next_of-bad : (big : Bool) (file : List ℕ) (at : ℕ) (fault : CaptureErr) → at ≤ length file → Err fault ≡ next_of big file at → records_of big at (drop at file) ≡ Err fault
unfolding next_of
next_of-bad big file at fault within next =
    ⊎_elim (λ end. absurd (cc))
    (λ other. records_of-bad big at (drop at file) fault (some_left file at within other) (bind_err (frame_of big at (drop at file)) fault (next ∙ cond-false _ _ _ other)))
    (cases_Bool (eqb at (length file)))

pub next_of-end : (big : Bool) (file : List ℕ) (at : ℕ) → at ≤ length file → Ok None ≡ next_of big file at → records_of big at (drop at file) ≡ Ok []
unfolding next_of
next_of-end big file at within next =
    ⊎_elim (λ end. let e = eqb-true at (length file) end in records_of-end big at (drop at file) (omega (arith, length-drop at file)))
    (λ other. absurd (bind_none (frame_of big at (drop at file)) (next ∙ cond-false _ _ _ other)))
    (cases_Bool (eqb at (length file)))

-- one frame counted, and one frame appended
pub count-more : (count : ℕ) (frame : List ℕ) (read : Result (List (List ℕ)) CaptureErr) → map_ok (λ frames. count + 1 + length frames) read ≡ map_ok (λ frames. count + length frames) (map_ok (λ frames. frame ∷ frames) read)
count-more count frame (Ok frames) = let same : count + 1 + length frames ≡ count + length (frame ∷ frames) = omega arith in ap Ok same
count-more count frame (Err e) = refl

pub front-more : (front : List (List ℕ)) (frame : List ℕ) (read : Result (List (List ℕ)) CaptureErr) → with_front (front ++ frame ∷ []) read ≡ with_front front (map_ok (λ frames. frame ∷ frames) read)
front-more front frame (Ok frames) = ap Ok (append_assoc front (frame ∷ []) frames)
front-more front frame (Err e) = refl

-- no frame in front
pub front-none : (read : Result (List (List ℕ)) CaptureErr) → with_front [] read ≡ read
front-none (Ok frames) = refl
front-none (Err e) = refl

-- no frame behind those in front
pub front-end : (front : List (List ℕ)) (read : Result (List (List ℕ)) CaptureErr) → read ≡ Ok [] → with_front front read ≡ Ok front
front-end front read end = ap (with_front front) end ∙ ap Ok (append-nil front)

pub ruleset reading = (next_of-more, next_of-bad, next_of-end, count-more, front-more, front-end)
