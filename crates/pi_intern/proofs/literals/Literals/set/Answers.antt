use Rattle.std.proofs.Common.{rules, ◌≡◌, ◌≤◌, length, vec_len, vec_capacity, arith}
use Rattle.pi_intern.proofs.Undone.{kept_set, kept_room, room_left, begun_set}
use Rattle.pi_intern.proofs.literals.Literals.set.Goals as goal

pub invariant_of-self : goal.invariant_of-self
invariant_of-self c =
    let empty = rw (← c.self.view_is) at c.requires.empty in
    let within = rw (← c.self.view_is) at c.requires.within in
    let roomy : vec_capacity c.self.inside.touched ≤ vec_capacity c.push.new.self = search rules in
    rw c.in-Ok.ensures.items (kept_set c.self.inside.slots.items c.self.inside.touched.items _ c.args.n c.args.at within empty (kept_room c.self.inside.slots.items c.self.inside.touched.items _ _ roomy c.self.invariant))

pub unreachable-requires : goal.unreachable-requires
unreachable-requires c =
    let full = c.in-Err.ensures.full in
    let empty = rw (← c.self.view_is) at c.requires.empty in
    let lens : vec_len c.self.inside.touched ≡ length c.self.inside.touched.items = search rules in
    let room = room_left c.self.inside.slots.items c.self.inside.touched.items _ c.args.n.0 empty c.self.invariant in
    omega (arith, full, room, lens)

pub returns-in-Ok-clause-begun : goal.returns-in-Ok-clause-begun
returns-in-Ok-clause-begun c =
    let empty = rw (← c.self.view_is) at c.requires.empty in
    rw (← c.self.view_is) (rw c.in-Ok.ensures.items (begun_set c.self.inside.pending c.self.inside.slots.items c.self.inside.touched.items c.args.n c.args.at c.if-self.true empty))
