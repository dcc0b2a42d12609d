-- 01's table of twelve: specs/TableOfTwelve.antt states it. Assumes nothing.
use Rattle.coding.specs.Examples.{rows}
use Rattle.laws_reading.proofs.Reading.{table_of_twelve_reading}
use Rattle.laws.specs.TableOfTwelve.{TableOfTwelve}

pub table_of_twelve : TableOfTwelve
table_of_twelve = record { reading = table_of_twelve_reading; coding = rows }
