-- Which headers a frame has together, and which are left of one that is cut.
use Rattle.std.proofs.Common.{◌≡◌, ℕ, ◌+◌, ◌*◌, ◌≤◌, Bool, true, false, ◌&&◌, ◌||◌, cond, eqb, leb, min, List, length, take, Option, Some, None, refl, sym, ap, ◌∙◌, ◌⊎◌, inl, inr, arith}
use Rattle.std.specs.Prelude.{IsSome, IsNone, IfSome}
use Rattle.std.proofs.lemmas.Bool.Decides.{nat_tests}
use Rattle.std.proofs.lemmas.List.{length-take}
use Rattle.ff_headers.specs.Kinds.{kind_size}
use Rattle.ff_headers.specs.Fields.{ether_type, ip_version, ipv4_words, ipv4_fragment_offset, ipv4_protocol, ipv6_next_header}
use Rattle.ff_headers.specs.Frames.{header_bytes, frame_part, named_part, eth_field, ip_field, names_ip, has_ipv4, has_ipv6, ipv4_end, ip_end, carries, is_named, place_in, header_at, header_of, headers_of}
use Rattle.ff_headers.specs.Cuts.{StandsIn, needed_for}
use Rattle.ff_headers.specs.declared.kind.Kind.{Kind}
use Rattle.ff_headers.specs.declared.kind.Kind.TheVariants.{Eth, Ipv4, Ipv6, Tcp, Udp}
use Rattle.ff_headers.specs.declared.field.Field.{Field}
use Rattle.ff_headers.proofs.FrameLemmas.{frame_part-within, one_ip, ipv4_is_long, ipv6_is_long}

pub header_at-of : (frame : List ℕ) (kind : Kind) → header_at (headers_of frame) kind ≡ header_of kind frame
unfolding headers_of
header_at-of frame Eth = refl
header_at-of frame Ipv4 = refl
header_at-of frame Ipv6 = refl
header_at-of frame Tcp = refl
header_at-of frame Udp = refl

-- ---- a part that is named and inside the frame

part_inside : (named : Bool) (place size : ℕ) (frame : List ℕ) → IsSome (named_part named place size frame) → (named ≡ true) × (place + size ≤ length frame)
part_inside named place size frame = by_tests named (leb (place + size) (length frame)) refl
  where
    by_tests : (a b : Bool) → leb (place + size) (length frame) ≡ b → IsSome (cond (a && b) (Some (frame_part place size frame)) None) → (a ≡ true) × (place + size ≤ length frame)
    by_tests true true inside some = (refl, grind (arith, nat_tests))
    by_tests true false inside some = absurd cc
    by_tests false b inside some = absurd cc

part_is_there : (named : Bool) (place size : ℕ) (frame : List ℕ) → named ≡ true → place + size ≤ length frame → named_part named place size frame ≡ Some (frame_part place size frame)
part_is_there named place size frame is inside =
    let reached : leb (place + size) (length frame) ≡ true = grind (arith, nat_tests) in
    rw (is, reached) refl

part_stands : (kind : Kind) (frame : List ℕ) (named : Bool) → IfSome (named_part named (place_in kind frame) (kind_size kind) frame) (StandsIn kind frame)
part_stands kind frame named = by_tests named (leb (place_in kind frame + kind_size kind) (length frame)) refl
  where
    by_tests : (a b : Bool) → leb (place_in kind frame + kind_size kind) (length frame) ≡ b
        → IfSome (cond (a && b) (Some (frame_part (place_in kind frame) (kind_size kind) frame)) None) (StandsIn kind frame)
    by_tests true true inside = record { inside = grind (arith, nat_tests); there = refl }
    by_tests true false inside = tt
    by_tests false b inside = tt

pub header_stands : (frame : List ℕ) (kind : Kind) → IfSome (header_at (headers_of frame) kind) (StandsIn kind frame)
header_stands frame kind = rw (header_at-of frame kind) (part_stands kind frame (is_named kind frame))

-- ---- headers that stand together

one_protocol : (v4 v6 f : Bool) (p n : ℕ) → (v4 ≡ true → v6 ≡ false) → ((v4 && (eqb p 6 && f)) || (v6 && eqb n 6)) ≡ true → ((v4 && (eqb p 17 && f)) || (v6 && eqb n 17)) ≡ false
one_protocol true v6 f p n one is = let other = one refl in grind (arith, nat_tests)
one_protocol false v6 f p n one is = grind (arith, nat_tests)

pub one_port_header : (frame : List ℕ) → carries 6 frame ≡ true → carries 17 frame ≡ false
unfolding carries
one_port_header frame is =
    one_protocol (has_ipv4 frame) (has_ipv6 frame) (eqb (ip_field Ipv4 ipv4_fragment_offset frame) 0) (ip_field Ipv4 ipv4_protocol frame) (ip_field Ipv6 ipv6_next_header frame) (one_ip frame) is

either_ip : (v4 v6 a b : Bool) → ((v4 && a) || (v6 && b)) ≡ true → (v4 ≡ true) ⊎ (v6 ≡ true)
either_ip true v6 a b is = inl refl
either_ip false true a b is = inr refl
either_ip false false a b is = absurd cc

carries_over_ip : (frame : List ℕ) (protocol : ℕ) → carries protocol frame ≡ true → (has_ipv4 frame ≡ true) ⊎ (has_ipv6 frame ≡ true)
unfolding carries
carries_over_ip frame protocol is = either_ip (has_ipv4 frame) (has_ipv6 frame) _ _ is

-- ---- parts of a cut frame

reaches-take : (end n : ℕ) (frame : List ℕ) → leb end (length (take n frame)) ≡ (leb end n && leb end (length frame))
reaches-take end n frame = rw length-take (both end n (length frame))
  where
    both : (a b c : ℕ) → leb a (min b c) ≡ (leb a b && leb a c)
    both a b c = grind (arith, nat_tests)

frame_part-take : (place size n : ℕ) (frame : List ℕ) → place + size ≤ n → frame_part place size (take n frame) ≡ frame_part place size frame
frame_part-take place size n frame within =
    frame_part-within 0 n place size frame within ∙ ap (λ p. frame_part p size frame) (omega arith)

eth_field-take : (f : Field) (n : ℕ) (frame : List ℕ) → 14 ≤ n → eth_field f (take n frame) ≡ eth_field f frame
unfolding eth_field
eth_field-take f n frame within = rw (frame_part-take 0 14 n frame (omega arith)) refl

ip_field-take : (kind : Kind) (f : Field) (n : ℕ) (frame : List ℕ) → 14 + kind_size kind ≤ n → ip_field kind f (take n frame) ≡ ip_field kind f frame
unfolding ip_field
ip_field-take kind f n frame within = rw (frame_part-take 14 (kind_size kind) n frame within) refl

names_ip-take : (kind : Kind) (type version n : ℕ) (frame : List ℕ) → names_ip kind type version (take n frame) ≡ (leb (14 + kind_size kind) n && names_ip kind type version frame)
unfolding names_ip
names_ip-take kind type version n frame = rw (reaches-take (14 + kind_size kind) n frame) (by_room (leb (14 + kind_size kind) n) refl)
  where
    by_room : (r : Bool) → leb (14 + kind_size kind) n ≡ r
        → ((r && leb (14 + kind_size kind) (length frame)) && (eqb (eth_field ether_type (take n frame)) type && eqb (ip_field kind ip_version (take n frame)) version))
        ≡ (r && (leb (14 + kind_size kind) (length frame) && (eqb (eth_field ether_type frame) type && eqb (ip_field kind ip_version frame) version)))
    by_room true is =
        let room : 14 + kind_size kind ≤ n = grind (arith, nat_tests) in
        rw (eth_field-take ether_type n frame (omega arith), ip_field-take kind ip_version n frame room) refl
    by_room false is = refl

has_ipv4-take : (n : ℕ) (frame : List ℕ) → has_ipv4 (take n frame) ≡ (leb (ipv4_end frame) n && has_ipv4 frame)
unfolding has_ipv4
has_ipv4-take n frame = rw (names_ip-take Ipv4 2048 4 n frame) (by_room (leb 34 n) refl)
  where
    moved : (a b c d : Bool) → (a && (b && (c && d))) ≡ (c && (a && (b && d)))
    moved true true c d = refl
    moved true false true d = refl
    moved true false false d = refl
    moved false b true d = refl
    moved false b false d = refl

    short : (w : ℕ) (a r : Bool) → leb 34 n ≡ false → false ≡ (leb (14 + 4 * w) n && (a && (leb 5 w && r)))
    short w a r is = grind (arith, nat_tests)

    by_room : (r : Bool) → leb 34 n ≡ r
        → ((r && names_ip Ipv4 2048 4 frame) && (leb 5 (ip_field Ipv4 ipv4_words (take n frame)) && leb (14 + 4 * ip_field Ipv4 ipv4_words (take n frame)) (length (take n frame))))
        ≡ (leb (ipv4_end frame) n && (names_ip Ipv4 2048 4 frame && (leb 5 (ip_field Ipv4 ipv4_words frame) && leb (ipv4_end frame) (length frame))))
    by_room true is =
        rw (ip_field-take Ipv4 ipv4_words n frame (grind (arith, nat_tests)), reaches-take (ipv4_end frame) n frame)
        (moved (names_ip Ipv4 2048 4 frame) (leb 5 (ip_field Ipv4 ipv4_words frame)) (leb (ipv4_end frame) n) (leb (ipv4_end frame) (length frame)))
    by_room false is = short (ip_field Ipv4 ipv4_words frame) (names_ip Ipv4 2048 4 frame) (leb (ipv4_end frame) (length frame)) is

behind_least : (frame : List ℕ) → has_ipv4 frame ≡ true → 34 ≤ ipv4_end frame
unfolding has_ipv4
behind_least frame is = grind (arith, nat_tests)

and_false : (a : Bool) → (a && false) ≡ false
and_false true = refl
and_false false = refl

and_true : (a : Bool) → (a && true) ≡ a
and_true true = refl
and_true false = refl

carries-take : (protocol n : ℕ) (frame : List ℕ) → carries protocol (take n frame) ≡ (leb (ip_end frame) n && carries protocol frame)
unfolding carries ip_end
carries-take protocol n frame = rw (has_ipv4-take n frame, names_ip-take Ipv6 34525 6 n frame) (by_ip (has_ipv4 frame) refl)
  where
    over_ipv4 : (f : List ℕ) → Bool
    over_ipv4 f = eqb (ip_field Ipv4 ipv4_protocol f) protocol && eqb (ip_field Ipv4 ipv4_fragment_offset f) 0

    over_ipv6 : (f : List ℕ) → Bool
    over_ipv6 f = eqb (ip_field Ipv6 ipv6_next_header f) protocol

    in_ipv4 : (r : Bool) → 34 ≤ ipv4_end frame → leb (ipv4_end frame) n ≡ r → ((r && over_ipv4 (take n frame)) || false) ≡ (r && (over_ipv4 frame || false))
    in_ipv4 true long is =
        let room : 34 ≤ n = grind (arith, nat_tests) in
        rw (ip_field-take Ipv4 ipv4_protocol n frame room, ip_field-take Ipv4 ipv4_fragment_offset n frame room) refl
    in_ipv4 false long is = refl

    in_ipv6 : (r v6 : Bool) → leb 54 n ≡ r → ((r && v6) && over_ipv6 (take n frame)) ≡ (r && (v6 && over_ipv6 frame))
    in_ipv6 true v6 is = rw (ip_field-take Ipv6 ipv6_next_header n frame (grind (arith, nat_tests))) refl
    in_ipv6 false v6 is = refl

    by_ip : (b : Bool) → has_ipv4 frame ≡ b
        → (((leb (ipv4_end frame) n && b) && over_ipv4 (take n frame)) || ((leb 54 n && has_ipv6 frame) && over_ipv6 (take n frame)))
        ≡ (leb (cond b (ipv4_end frame) 54) n && ((b && over_ipv4 frame) || (has_ipv6 frame && over_ipv6 frame)))
    by_ip true is =
        rw (one_ip frame is, and_true (leb (ipv4_end frame) n), and_false (leb 54 n)) (in_ipv4 (leb (ipv4_end frame) n) (behind_least frame is) refl)
    by_ip false is = rw (and_false (leb (ipv4_end frame) n)) (in_ipv6 (leb 54 n) (has_ipv6 frame) refl)

ip_end-take : (n : ℕ) (frame : List ℕ) → ip_end frame ≤ n → ip_end (take n frame) ≡ ip_end frame
unfolding ip_end
ip_end-take n frame within = rw (has_ipv4-take n frame) (by_ip (has_ipv4 frame) refl within)
  where
    by_ip : (b : Bool) → has_ipv4 frame ≡ b → cond b (ipv4_end frame) 54 ≤ n → cond (leb (ipv4_end frame) n && b) (ipv4_end (take n frame)) 54 ≡ cond b (ipv4_end frame) 54
    by_ip true is inside =
        let room : leb (ipv4_end frame) n ≡ true = grind (arith, nat_tests) in
        let long = behind_least frame is in
        rw (room, ip_field-take Ipv4 ipv4_words n frame (omega arith)) refl
    by_ip false is inside = rw (and_false (leb (ipv4_end frame) n)) refl

part-take : (named : Bool) (place size n : ℕ) (frame : List ℕ) → named_part named place size (take n frame) ≡ cond (leb (place + size) n) (named_part named place size frame) None
part-take named place size n frame = rw (reaches-take (place + size) n frame) (by_room (leb (place + size) n) refl)
  where
    by_room : (r : Bool) → leb (place + size) n ≡ r
        → cond (named && (r && leb (place + size) (length frame))) (Some (frame_part place size (take n frame))) None
        ≡ cond r (named_part named place size frame) None
    by_room true is = rw (frame_part-take place size n frame (grind (arith, nat_tests))) refl
    by_room false is = rw (and_false named) refl

-- a part whose name wants more of the frame than the part has
sifted : (small big named held : Bool) (x : Option (List ℕ)) → (named ≡ true → big ≡ true → small ≡ true)
    → cond small (cond ((big && named) && held) x None) None ≡ cond big (cond (named && held) x None) None
sifted true true named held x h = refl
sifted true false named held x h = refl
sifted false false named held x h = refl
sifted false true true held x h = let e = h refl refl in absurd cc
sifted false true false held x h = refl

ports-take : (protocol size n : ℕ) (frame : List ℕ) → named_part (carries protocol (take n frame)) (ip_end (take n frame)) size (take n frame)
    ≡ cond (leb (ip_end frame + size) n) (named_part (carries protocol frame) (ip_end frame) size frame) None
ports-take protocol size n frame = rw (carries-take protocol n frame) (by_room (leb (ip_end frame) n) refl)
  where
    by_room : (r : Bool) → leb (ip_end frame) n ≡ r → named_part (r && carries protocol frame) (ip_end (take n frame)) size (take n frame)
        ≡ cond (leb (ip_end frame + size) n) (named_part (carries protocol frame) (ip_end frame) size frame) None
    by_room true is = rw (ip_end-take n frame (grind (arith, nat_tests))) (part-take (carries protocol frame) (ip_end frame) size n frame)
    by_room false is =
        let short : leb (ip_end frame + size) n ≡ false = grind (arith, nat_tests) in
        rw short refl

pub header_of-take : (frame : List ℕ) (n : ℕ) (kind : Kind) → header_of kind (take n frame) ≡ cond (leb (needed_for kind frame) n) (header_of kind frame) None
header_of-take frame n Eth = part-take true 0 14 n frame
header_of-take frame n Ipv4 = rw (has_ipv4-take n frame)
    (part-take (leb (ipv4_end frame) n && has_ipv4 frame) 14 20 n frame
    ∙ sifted (leb 34 n) (leb (ipv4_end frame) n) (has_ipv4 frame) _ _ (λ is room. let long = behind_least frame is in grind (arith, nat_tests)))
header_of-take frame n Ipv6 = rw (names_ip-take Ipv6 34525 6 n frame)
    (part-take (leb 54 n && has_ipv6 frame) 14 40 n frame ∙ sifted (leb 54 n) (leb 54 n) (has_ipv6 frame) _ _ (λ is room. room))
header_of-take frame n Tcp = ports-take 6 20 n frame
header_of-take frame n Udp = ports-take 17 8 n frame

pub header_at-take : (frame : List ℕ) (n : ℕ) (kind : Kind) → header_at (headers_of (take n frame)) kind ≡ cond (leb (needed_for kind frame) n) (header_at (headers_of frame) kind) None
header_at-take frame n kind = rw (header_at-of (take n frame) kind, header_at-of frame kind) (header_of-take frame n kind)

-- ---- the laws

pub ipv4_is_alone : (frame : List ℕ) → IsSome (headers_of frame).ipv4 → IsNone (headers_of frame).ipv6
unfolding headers_of
ipv4_is_alone frame some = rw (one_ip frame (part_inside (has_ipv4 frame) 14 20 frame some).0) refl

pub tcp_is_alone : (frame : List ℕ) → IsSome (headers_of frame).tcp → IsNone (headers_of frame).udp
unfolding headers_of
tcp_is_alone frame some = rw (one_port_header frame (part_inside (carries 6 frame) (ip_end frame) 20 frame some).0) refl

ip_is_there : (frame : List ℕ) → (has_ipv4 frame ≡ true) ⊎ (has_ipv6 frame ≡ true) → IsSome (headers_of frame).ipv4 ⊎ IsSome (headers_of frame).ipv6
unfolding headers_of
ip_is_there frame (inl is) = inl (rw (part_is_there (has_ipv4 frame) 14 20 frame is (ipv4_is_long frame is)) refl)
ip_is_there frame (inr is) = inr (rw (part_is_there (has_ipv6 frame) 14 40 frame is (ipv6_is_long frame is)) refl)

pub ports_stand_on_ip : (frame : List ℕ) → IsSome (headers_of frame).tcp ⊎ IsSome (headers_of frame).udp → IsSome (headers_of frame).ipv4 ⊎ IsSome (headers_of frame).ipv6
unfolding headers_of
ports_stand_on_ip frame (inl some) = ip_is_there frame (carries_over_ip frame 6 (part_inside (carries 6 frame) (ip_end frame) 20 frame some).0)
ports_stand_on_ip frame (inr some) = ip_is_there frame (carries_over_ip frame 17 (part_inside (carries 17 frame) (ip_end frame) 8 frame some).0)

pub ip_stands_on_ethernet : (frame : List ℕ) → IsSome (headers_of frame).ipv4 ⊎ IsSome (headers_of frame).ipv6 → IsSome (headers_of frame).eth
unfolding headers_of
ip_stands_on_ethernet frame (inl some) =
    let long = (part_inside (has_ipv4 frame) 14 20 frame some).1 in
    rw (part_is_there true 0 14 frame refl (omega arith)) refl
ip_stands_on_ethernet frame (inr some) =
    let long = (part_inside (has_ipv6 frame) 14 40 frame some).1 in
    rw (part_is_there true 0 14 frame refl (omega arith)) refl

-- an IPv4 header has at most 15 words
end_of_words : (frame : List ℕ) → ipv4_end frame ≤ 74
unfolding ip_field
end_of_words frame = omega arith

end_of_ip : (frame : List ℕ) → ip_end frame ≤ 74
unfolding ip_end
end_of_ip frame = by_ip (has_ipv4 frame)
  where
    by_ip : (b : Bool) → cond b (ipv4_end frame) 54 ≤ 74
    by_ip true = end_of_words frame
    by_ip false = omega arith

needed_at_most : (frame : List ℕ) (kind : Kind) → needed_for kind frame ≤ 94
needed_at_most frame Eth = omega arith
needed_at_most frame Ipv4 = omega (arith, end_of_words frame)
needed_at_most frame Ipv6 = omega arith
needed_at_most frame Tcp = omega (arith, end_of_ip frame)
needed_at_most frame Udp = omega (arith, end_of_ip frame)

front_has_all : (frame : List ℕ) (kind : Kind) → header_of kind (take 94 frame) ≡ header_of kind frame
front_has_all frame kind =
    let within : needed_for kind frame ≤ 94 = needed_at_most frame kind in
    let room : leb (needed_for kind frame) 94 ≡ true = grind (arith, nat_tests) in
    header_of-take frame 94 kind ∙ rw room refl

front_is_enough : (frame : List ℕ) → headers_of (take 94 frame) ≡ headers_of frame
unfolding headers_of
front_is_enough frame = five (front_has_all frame Eth) (front_has_all frame Ipv4) (front_has_all frame Ipv6) (front_has_all frame Tcp) (front_has_all frame Udp)
  where
    five : {e e' v4 v4' v6 v6' t t' u u' : Option (List ℕ)} → e ≡ e' → v4 ≡ v4' → v6 ≡ v6' → t ≡ t' → u ≡ u' → header_bytes e v4 v6 t u ≡ header_bytes e' v4' v6' t' u'
    five p q r s w = cc

pub alike_have_the_same : (a b : List ℕ) → take 94 a ≡ take 94 b → headers_of a ≡ headers_of b
alike_have_the_same a b same = sym (front_is_enough a) ∙ ap headers_of same ∙ front_is_enough b
