-- The least and the greatest density of a window.
use Rattle.fill_area.specs.Density.{IsShare}
use Rattle.fill_text.specs.declared.limits.Limits.{Limits}

-- both are from 0 to a million
pub record AreShares (limits : Limits) : Type 0 where
  pub least : IsShare limits.least
  pub most : IsShare limits.most
