-- What a bore means: stations in a row, a leg down and a leg up between each and the next, and zones with marks.
use Rattle.std.specs.Prelude.{ℕ, zero, suc, ◌+◌, ◌-◌, ◌*◌, ◌^◌, Bool, false, cond, ◌&&◌, ◌||◌, List, [], ◌∷◌, map, ◌==◌, nat_le}
use Rattle.std.specs.List.{range_with_len, flat_map}
use Rattle.chart.specs.declared.leg.Leg.{Leg}
use Rattle.chart.specs.declared.leg.Zone.{Zone}
use Rattle.chart.specs.Chart.{Plan}

-- whether the station is in the zone: from its first to its last, both included
abbrev pub in_zone : ℕ → Zone → Bool
in_zone s z = nat_le z.first s && nat_le s z.last

-- whether some zone with the mark holds the station
abbrev pub marked : List Zone → ℕ → ℕ → Bool
marked [] s m = false
marked (z ∷ zs) s m = (in_zone s z && z.mark == m) || marked zs s m

-- the number below 2^n whose bit m, the one of weight 2^m, is p m
abbrev pub bits : ℕ → (ℕ → Bool) → ℕ
bits zero p = 0
bits (suc n) p = cond (p n) 1 0 * 2 ^ n + bits n p

-- a station's letter: bit m of six is whether some zone with mark m holds the station
abbrev pub zone_letter : List Zone → ℕ → ℕ
zone_letter zones s = bits 6 (marked zones s)

-- the leg down from station i to the next
abbrev pub leg_down : ℕ → ℕ → Leg
leg_down down i = record { from = i; to = i + 1; seconds = down }

-- the leg up from there to i
abbrev pub leg_up : ℕ → ℕ → Leg
leg_up up i = record { from = i + 1; to = i; seconds = up }

-- both, the leg down first
abbrev pub leg_pair : ℕ → ℕ → ℕ → List Leg
leg_pair down up i = leg_down down i ∷ leg_up up i ∷ []

-- a bore of n stations: the letter of each, and, from each station but the last, the leg down and the leg up
abbrev pub bore_plan : ℕ → ℕ → ℕ → List Zone → Plan
bore_plan n down up zones = record {
  letters = map (zone_letter zones) (range_with_len 0 n);
  legs = flat_map (leg_pair down up) (range_with_len 0 (n - 1));
}
