-- What a load writes, at worked rows.
use Rattle.std.proofs.Common.{◌≡◌, [], ◌∷◌, codes, None, refl}
use Rattle.std.specs.Fmt.{digits}
use Rattle.ff_headers.specs.Frames.{headers_of, has_ipv4, carries, eth_field, ip_field, ip_end, names_ip}
use Rattle.generated_load.specs.Counts.{counts_of}
use Rattle.generated_load.specs.Draws.{draw, stepped}
use Rattle.generated_load.specs.DrawnFrames.{drawn_datagram, drawn_frame, drawn_frames, frame_bytes}
use Rattle.generated_load.specs.DrawnTables.{drawn_criteria, drawn_spec, drawn_specs, drawn_table, ip_criteria, tcp_criteria, udp_criteria}
use Rattle.ntuple_compile.specs.SpecFits.{spec_fits, specs_action}
use Rattle.vnff_base.specs.Numbers.{number_of}
use Rattle.vnff_run.specs.Forms.{word_form, load_of}
use Rattle.vnff_run.specs.LoadWords.{frame_count_of}
use Rattle.vnff_run.specs.Loads.{count_line, gen_text, number_end, queue_line, summary_text}
use Rattle.vnff_run.specs.Outcomes.{outcome_of}

-- three frames of seed 1: one gets the default, and queues 0 and 12 one each
three_frames : gen_text 1 3 ≡ codes "frames 3\ndrop 0\ndefault 1\nqueue 0 1\nqueue 1 0\nqueue 2 0\nqueue 3 0\nqueue 4 0\nqueue 5 0\nqueue 6 0\nqueue 7 0\nqueue 8 0\nqueue 9 0\nqueue 10 0\nqueue 11 0\nqueue 12 1\nqueue 13 0\nqueue 14 0\nqueue 15 0\n"
unfolding gen_text summary_text count_line queue_line number_end counts_of digits drawn_table drawn_frames drawn_specs drawn_spec drawn_criteria udp_criteria tcp_criteria ip_criteria drawn_frame drawn_datagram frame_bytes draw stepped specs_action spec_fits headers_of has_ipv4 carries eth_field ip_field ip_end names_ip
three_frames = refl

-- a number of frames out of its range is no form
no_frames : outcome_of (codes "gen" ∷ codes "1" ∷ codes "0" ∷ []) (λ _. None) ≡ record { status = 2; text = [] }
unfolding word_form load_of frame_count_of number_of digits
no_frames = refl
