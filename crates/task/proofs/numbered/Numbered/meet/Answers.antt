use Rattle.std.proofs.Common.{◌≡◌, ℕ, ◌<◌, ◌≤◌, length, arith, rules}
use Rattle.ltlf.specs.Numbering.{place}
use Rattle.ltlf.proofs.Places.{front_length, place_le, meet_new}
use Rattle.task.specs.Listed.{listed}
use Rattle.task.specs.declared.numbered.Numbered.{Numbered}
use Rattle.task.proofs.Places.{apart_meet}
use Rattle.task.proofs.numbered.Numbered.meet.Goals as goal

-- a state with no number has its place after the others
new_place : (m : Numbered) (s : ℕ) → length (listed m) ≤ place s (listed m) → m.count ≡ place s (listed m)
new_place m s none =
    omega (arith, place_le s (listed m), front_length s m.count m.states (omega (arith, m.fits, m.whole)))

pub invariant_of-self-2 : goal.invariant_of-self-2
invariant_of-self-2 c =
    let me = c.args.self.now in
    let room : me.count < length me.states = search rules in
    record {
      fits = search rules;
      whole = search rules;
      hinted = search rules;
      apart = apart_meet c.args.state me.count me.states room (new_place me c.args.state c.in_default.ensures) me.apart;
    }

pub returns : goal.returns
returns c =
    let me = c.args.self.now in
    let fits : me.count ≤ length me.states = search rules in
    let room : me.count < length me.states = search rules in
    let new = new_place me c.args.state c.in_default.ensures in
    (search rules, new, meet_new c.args.state me.count me.states fits room new)
