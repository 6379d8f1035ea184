-- Worked rows: what number 7 makes, computed apart from the definitions.
use Rattle.std.specs.Prelude.{◌≡◌, [], ◌∷◌, codes, refl}
use Rattle.std.specs.Fmt.{digits}
use Rattle.spec_exec.specs.Checksum.{checksum}
use Rattle.spec_input.specs.Made.{state, draw, subnet_line, register_line, made_frame, frames_made}

the_first_draws : (draw 7 1 ≡ 1059165278) × ((draw 7 2 ≡ 2052263231) × (draw 7 3 ≡ 1946856753))
unfolding state
the_first_draws = (refl, (refl, refl))

-- draws begin anew with another number, which may be 0 or the greatest of 32 bits
another_number_draws_others : (draw 0 1 ≡ 167951807) × (draw 4294967295 1 ≡ 69501759)
unfolding state
another_number_draws_others = (refl, refl)

rules_of_subnets :
    (subnet_line 7 0 ≡ codes "table=0,priority=100,ip,nw_dst=10.2.15.0/24,actions=load:1->reg0[],resubmit(,1)\n")
    × (subnet_line 7 63 ≡ codes "table=0,priority=163,ip,nw_dst=10.0.3.0/24,actions=load:0->reg0[],resubmit(,1)\n")
unfolding state digits
rules_of_subnets = (refl, refl)

rules_of_the_register :
    (register_line 0 ≡ codes "table=1,priority=10,udp,reg0=0,actions=output:1\n")
    × (register_line 15 ≡ codes "table=1,priority=10,udp,reg0=15,actions=output:4\n")
unfolding digits
rules_of_the_register = (refl, refl)

-- with the checksum that a program of its own computed
the_first_frame_of_two_ports :
    ((made_frame 7 0).bytes ≡ 0x2 ∷ 0x0 ∷ 0x0 ∷ 0x0 ∷ 0x0 ∷ 0x2 ∷ 0x2 ∷ 0x0 ∷ 0x0 ∷ 0x0 ∷ 0x0 ∷ 0x1 ∷ 0x8 ∷ 0x0 ∷ 0x45 ∷ 0x0 ∷ 0x0 ∷ 0x1c ∷ 0x0 ∷ 0x0 ∷ 0x0 ∷ 0x0 ∷ 0x40 ∷ 0x11 ∷ 0x5f ∷ 0x16 ∷ 0xa ∷ 0x0 ∷ 0x0 ∷ 0xc5 ∷ 0xa ∷ 0x0 ∷ 0x6 ∷ 0xf7 ∷ 0x6 ∷ 0xfa ∷ 0x0 ∷ 0x35 ∷ 0x0 ∷ 0x8 ∷ 0x0 ∷ 0x0 ∷ [])
    × ((made_frame 7 1).bytes ≡ 0x2 ∷ 0x0 ∷ 0x0 ∷ 0x0 ∷ 0x0 ∷ 0x2 ∷ 0x2 ∷ 0x0 ∷ 0x0 ∷ 0x0 ∷ 0x0 ∷ 0x1 ∷ 0x8 ∷ 0x0 ∷ 0x45 ∷ 0x0 ∷ 0x0 ∷ 0x1c ∷ 0x0 ∷ 0x0 ∷ 0x0 ∷ 0x0 ∷ 0x40 ∷ 0x11 ∷ 0x5b ∷ 0xb4 ∷ 0xa ∷ 0x0 ∷ 0x0 ∷ 0x20 ∷ 0xa ∷ 0x2 ∷ 0xa ∷ 0xfc ∷ 0x6 ∷ 0x7d ∷ 0x0 ∷ 0x35 ∷ 0x0 ∷ 0x8 ∷ 0x0 ∷ 0x0 ∷ [])
unfolding state checksum
the_first_frame_of_two_ports = (refl, refl)

frames_come_every_millisecond_from_second_1 : ((made_frame 7 0).time ≡ 1000000000) × ((made_frame 7 19999).time ≡ 20999000000)
frames_come_every_millisecond_from_second_1 = (refl, refl)

ports_take_the_frames_in_turn :
    (frames_made 7 1 2 ≡ made_frame 7 0 ∷ made_frame 7 4 ∷ []) × ((frames_made 7 2 2 ≡ made_frame 7 1 ∷ made_frame 7 5 ∷ [])
    × (frames_made 7 4 2 ≡ made_frame 7 3 ∷ made_frame 7 7 ∷ []))
ports_take_the_frames_in_turn = (refl, (refl, refl))
