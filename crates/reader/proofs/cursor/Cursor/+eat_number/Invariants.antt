-- The number falls: its tenth comes first.
use Rattle.reader.proofs.cursor.Cursor.+eat_number.Given as goal

abbrev pub decreases-eat_number : goal.decreases-eat_number
decreases-eat_number l = l.n
