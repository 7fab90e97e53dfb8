-- What is drawn, at worked examples.
use Rattle.std.proofs.Common.{◌≡◌, [], ◌∷◌, ◌++◌, replicate, Some, None, refl}
use Rattle.ntuple_text.specs.declared.spec.Flow.TheVariants.{Ip4, Tcp4, Udp4}
use Rattle.ntuple_text.specs.declared.spec.TableDo.TheVariants.{Queue}
use Rattle.generated_load.specs.Draws.{draw, each_drawn, stepped}
use Rattle.generated_load.specs.DrawnFrames.{drawn_datagram, drawn_frame, frame_bytes}
use Rattle.generated_load.specs.DrawnTables.{drawn_criteria, drawn_spec, drawn_specs, ip_criteria, tcp_criteria, udp_criteria}

from_one : draw 1 3 ≡ (7806831264735756412, 2)
unfolding draw stepped
from_one = refl

-- the specs of seed 1 at the first locations: `flow-type ip4 dst-ip 10.1.9.204 action 8 loc 0`, `flow-type udp4 dst-port 243
-- action 1 loc 1` and `flow-type tcp4 src-ip 10.0.9.0 m 0.0.0.255 dst-port 954 action 1 loc 2`
first_specs :
    (each_drawn drawn_spec 3 1).1
    ≡ record { flow = Ip4; src = None; dst = Some (record { value = 0x0a0109cc; skip = 0 }); proto = None; class = None; src_port = None; dst_port = None; action = Queue 8; loc = 0 }
    ∷ record { flow = Udp4; src = None; dst = None; proto = None; class = None; src_port = None; dst_port = Some (record { value = 243; skip = 0 }); action = Queue 1; loc = 1 }
    ∷ record { flow = Tcp4; src = Some (record { value = 0x0a000900; skip = 255 }); dst = None; proto = None; class = None; src_port = None; dst_port = Some (record { value = 954; skip = 0 }); action = Queue 1; loc = 2 }
    ∷ []
unfolding drawn_spec drawn_criteria udp_criteria tcp_criteria ip_criteria draw stepped
first_specs = refl

-- the state behind the table of seed 1
behind_the_table : (drawn_specs 1).0 ≡ 15502607021589133160
unfolding drawn_specs drawn_spec drawn_criteria udp_criteria tcp_criteria ip_criteria draw stepped
behind_the_table = refl

-- the frame from there on: UDP from 10.0.11.206 port 24257 to 10.1.0.89 port 486
first_frame :
    (drawn_frame 15502607021589133160).1
    ≡ replicate 12 0
    ++ (0x08 ∷ 0x00 ∷ 0x45 ∷ 0x00 ∷ 0x00 ∷ 0x28 ∷ 0x00 ∷ 0x00 ∷ 0x00 ∷ 0x00 ∷ 0x40 ∷ 17 ∷ 0x00 ∷ 0x00 ∷ [])
    ++ (10 ∷ 0 ∷ 11 ∷ 206 ∷ 10 ∷ 1 ∷ 0 ∷ 89 ∷ 0x5e ∷ 0xc1 ∷ 0x01 ∷ 0xe6 ∷ [])
    ++ replicate 16 0
unfolding drawn_frame drawn_datagram frame_bytes draw stepped
first_frame = refl
