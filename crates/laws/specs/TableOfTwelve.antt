-- 01's table of twelve, as a statement. proofs/TableOfTwelve.antt proves it.
use Rattle.coding.specs.Examples.{Rows}
use Rattle.laws_reading.specs.Reading.{TableOfTwelveReading}

-- "The table of twelve": "These are proved together as one table of the definitions"
pub record TableOfTwelve : Type 0 where
  pub reading : TableOfTwelveReading
  pub coding : Rows
