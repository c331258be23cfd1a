-- The law on components of vector values.
use Rattle.std.proofs.Common.{ℕ, Bool, true, false, refl}
use Rattle.wg_num.specs.declared.types.IntType.{IntType}
use Rattle.cl_model.specs.Lists.{Each}
use Rattle.cl_tree.specs.Syntax.{Syntax}
use Rattle.cl_meaning.specs.Environment.{Env}
use Rattle.cl_meaning.specs.Faults.{Asked}
use Rattle.cl_short_vec.specs.Marks.{Mark, marked}
use Rattle.cl_short_vec.specs.Order.{steps_in}
use Rattle.cl_short_vec.specs.Parts.{part_in}
use Rattle.cl_short_vec_faults.specs.Parts.{HelpedBy, SoundNumber, HasPart, PartsFollow}
use Rattle.cl_short_vec_faults.proofs.PartNodes.{GoodNumber}
use Rattle.cl_short_vec_faults.proofs.PartCalls.{calls_known}
use Rattle.cl_short_vec_faults.proofs.PartTrees.{Shown, shown}

pub sound_number : (asked : Asked) (env : Env) (t : Syntax) → GoodNumber asked env t → SoundNumber asked env t
sound_number asked env t x = record { of = x.0; reached = x.1; sound = x.2.sound; kind = x.2.kind }

-- of an operand, or of items where `listed` says so
pub part_good : (asked : Asked) (env : Env) (m : Mark) → Shown asked env m → (listed : Bool) (of : IntType) →
    Each (HelpedBy env) (steps_in listed of m) → (c : ℕ) → HasPart listed m c →
    GoodNumber asked env (part_in listed m c)
part_good asked env m x true of h c l = x.items of h c l
part_good asked env m x false of h c l = x.operand of h c l

pub parts_follow : PartsFollow
parts_follow asked names plain form role listed of t h p alike alone r s steps c l =
    let calls = calls_known asked names plain form alike alone t plain h p (λ q. refl) s in
    sound_number asked form (part_in listed (marked names t) c) (part_good asked form (marked names t)
    (shown asked form t names form h calls (λ q. refl) (role, r)) listed of steps c l)
