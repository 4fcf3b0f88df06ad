-- The form of a book as the code names it, and the rules' form that it stands for.
use Rattle.rules.specs.Form as rules
use Rattle.rules.specs.Form.{plain}
use Rattle.rules.specs.Slips.{slip}
use Rattle.book.specs.declared.forms.Form.{Form}
use Rattle.book.specs.declared.forms.Form.TheVariants.{Plain, Slip}

abbrev pub form_of : Form → rules.Form
form_of Plain = plain
form_of Slip = slip
