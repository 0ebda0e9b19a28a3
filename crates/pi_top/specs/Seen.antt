-- What the plain run's definitions see of its values.
use Rattle.std.specs.Option.{option_copied}
use Rattle.pi_top.specs.declared.plain.place.Small.{Small}
use Rattle.pi_top.specs.declared.plain.place.Place.{Place}
use Rattle.pi_top.specs.Plain.{View, Plain}

abbrev pub view_of : Small → View
view_of small = record { class = small.class.now; clinit = option_copied small.clinit; main = small.main.now }

abbrev pub plain_of : Place → Plain
plain_of place = record { stage = place.stage; clinit = place.clinit; main = place.main; statics = place.statics.items }
