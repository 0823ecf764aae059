-- What each public function answers. Assumes nothing: these are definitions.
use Rattle.std.specs.Prelude.{◌≡◌, ℕ, vec_items, Result, Vec}
use Rattle.std.specs.declared.alloc.Global.{Global}
use Rattle.refusal.specs.Order.{Answers}
use Rattle.refusal.specs.declared.kinds.Refusal.{Refusal}
use Rattle.zones.specs.declared.kinds.Range.{Range}
use Rattle.zones.specs.declared.kinds.Rate.{Rate}
use Rattle.plant.specs.declared.kinds.Gauge.{Gauge}
use Rattle.plant.specs.declared.whole.Plant.{Plant}
use Rattle.plant.specs.Checks.{plant_refused}

-- The plant of just these numbers.
pub record Made (n f : ℕ) (rs : Vec Range Global) (vs : Vec Rate Global) (gs : Vec Gauge Global) (p : Plant) : Type 0 where
  pub basins : p.basins ≡ n
  pub wrong : p.wrong ≡ f
  pub ranges : p.ranges ≡ rs
  pub rates : p.rates ≡ vs
  pub gauges : p.gauges ≡ gs

abbrev pub NewSays : ℕ → ℕ → Vec Range Global → Vec Rate Global → Vec Gauge Global → Result Plant Refusal → Type 0
NewSays n f ranges rates gauges r =
    Answers r (plant_refused n f (vec_items ranges) (vec_items rates) (vec_items gauges)) (Made n f ranges rates gauges) Unit
