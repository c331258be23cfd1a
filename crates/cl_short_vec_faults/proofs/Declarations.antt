-- Declarations without vectors are at fault, but for the lengths of arrays, only where their plain forms are.
use Rattle.cl_short_vec.specs.declared.roles.Role.TheVariants.{Head, Outer}
use Rattle.cl_short_vec_faults.proofs.Following.{DeclarationsFollow, HeadsFollow}
use Rattle.cl_short_vec_faults.proofs.Expressions.{expressions_follow}
use Rattle.cl_short_vec_faults.proofs.LineDeclarations.{initials_follow}
use Rattle.cl_short_vec_faults.proofs.InitialLines.{initial_lines_follow}
use Rattle.cl_short_vec_faults.proofs.DeclarationLines.{declarations_follow}
use Rattle.cl_short_vec_faults.proofs.HeadDeclarations.{heads_follow, outer_follow}

-- in a block
pub block_declarations : DeclarationsFollow
block_declarations = declarations_follow expressions_follow (initial_lines_follow initials_follow)

-- in the head of a `for`
pub head_declarations : HeadsFollow Head
head_declarations = heads_follow expressions_follow

-- of the unit
pub unit_declarations : HeadsFollow Outer
unit_declarations = outer_follow expressions_follow
