-- The limits of legs and zones as tests.
use Rattle.std.specs.Prelude.{ℕ, Bool, ◌&&◌, List, nat_le, nat_lt}
use Rattle.std.specs.List.{list_all}
use Rattle.chart.specs.declared.leg.Leg.{Leg}
use Rattle.chart.specs.declared.leg.Zone.{Zone}

-- whether n is from low to high, both included
abbrev pub among : ℕ → ℕ → ℕ → Bool
among low high n = nat_le low n && nat_le n high

-- whether both ends of a leg are among n stations, and its seconds from 1 to 1,000
abbrev pub leg_sound : ℕ → Leg → Bool
leg_sound n l = (nat_lt l.from n && nat_lt l.to n) && among 1 1000 l.seconds

-- whether each of the legs is so
abbrev pub legs_sound : ℕ → List Leg → Bool
legs_sound n = list_all (leg_sound n)

-- whether a row has 1 to 256 stations, and takes 1 to 1,000 seconds down and up between one and the next
abbrev pub spacing_sound : ℕ → ℕ → ℕ → Bool
spacing_sound stations down up = among 1 256 stations && (among 1 1000 down && among 1 1000 up)

-- whether a zone's first station is not past its last, its last is among n stations, and its mark is one of six
abbrev pub zone_sound : ℕ → Zone → Bool
zone_sound n z = (nat_le z.first z.last && nat_lt z.last n) && nat_lt z.mark 6

-- whether each of the zones is so
abbrev pub zones_sound : ℕ → List Zone → Bool
zones_sound n = list_all (zone_sound n)
