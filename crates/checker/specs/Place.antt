-- Where a strip stands, as the rules have it.
use Rattle.cool.specs.Nodes.{Where, at_top, in_method}
use Rattle.checker.specs.declared.place.Place.{Place}
use Rattle.checker.specs.declared.place.Place.TheVariants.{Top, In}

abbrev pub where_of : Place → Where
where_of Top = at_top
where_of (In c t) = in_method c t
