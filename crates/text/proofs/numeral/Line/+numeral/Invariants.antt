-- The measure is the number of places.
use Rattle.text.proofs.numeral.Line.+numeral.Given as goal

abbrev pub decreases-numeral : goal.decreases-numeral
decreases-numeral l = l.places
