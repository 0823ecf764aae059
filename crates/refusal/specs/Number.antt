-- The number and the place of each refusal. Assumes nothing: these are definitions.
use Rattle.std.specs.Prelude.{ℕ}
use Rattle.refusal.specs.declared.kinds.Refusal.{Refusal}
use Rattle.refusal.specs.declared.kinds.Refusal.TheVariants.{Basins, Gauges, Wrong, Length, Rate, ZoneNumber, Range}
use Rattle.refusal.specs.declared.kinds.Refusal.TheVariants.{Placement, NoGauge, LowAboveHigh, PastMillion, NoBasin}
use Rattle.refusal.specs.declared.kinds.Refusal.TheVariants.{SameBasin, Steps, HistoryLength, TooManyBlamed}
use Rattle.refusal.specs.declared.kinds.Refusal.TheVariants.{BlamedPastPlant}

-- The numbers are also the order of the checks: what is refused is refused by the smallest that applies.
abbrev pub number_of : Refusal → ℕ
number_of Basins = 1
number_of Gauges = 2
number_of Wrong = 2
number_of (Length at) = 3
number_of (Rate at) = 4
number_of (ZoneNumber at) = 5
number_of (Range at) = 6
number_of (Placement at) = 7
number_of (NoGauge at) = 8
number_of LowAboveHigh = 9
number_of PastMillion = 9
number_of NoBasin = 10
number_of SameBasin = 10
number_of (Steps at) = 11
number_of (HistoryLength at) = 12
number_of (TooManyBlamed at) = 13
number_of (BlamedPastPlant at) = 13

-- Where two conditions have one number and no place of their own, 0 is the first and 1 the second.
abbrev pub place_of : Refusal → ℕ
place_of Basins = 0
place_of Gauges = 0
place_of Wrong = 1
place_of (Length at) = at
place_of (Rate at) = at
place_of (ZoneNumber at) = at
place_of (Range at) = at
place_of (Placement at) = at
place_of (NoGauge at) = at
place_of LowAboveHigh = 0
place_of PastMillion = 1
place_of NoBasin = 0
place_of SameBasin = 1
place_of (Steps at) = at
place_of (HistoryLength at) = at
place_of (TooManyBlamed at) = at
place_of (BlamedPastPlant at) = at
