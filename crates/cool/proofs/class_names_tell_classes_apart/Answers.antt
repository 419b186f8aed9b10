use Rattle.cool.proofs.class_names_tell_classes_apart.Goals as goal
use Rattle.cool.proofs.Says.{types_one_to_one}

pub returns : goal.returns
returns c = types_one_to_one
