-- What is looked at does not depend on the places of tokens.
use Rattle.std.proofs.Common.{◌≡◌, ℕ, List, Option, None, Some, refl, ◌∙◌}
use Rattle.wg_num.specs.declared.types.Place.{Place}
use Rattle.cl_tree.specs.declared.tree.Form.{Form}
use Rattle.cl_tree.specs.declared.tree.Form.TheVariants as forms
use Rattle.cl_tree.specs.Syntax.{Syntax, node, Forest}
use Rattle.cl_meaning.specs.declared.fault.Fault.{Fault}
use Rattle.cl_meaning.specs.declared.kind.Kind.{Kind}
use Rattle.cl_meaning.specs.declared.kind.Role.{Role}
use Rattle.cl_meaning.specs.Kinds.{kind_step}
use Rattle.cl_meaning.specs.Faults.{Asked}
use Rattle.cl_scope.specs.declared.environment.Environment as rust
use Rattle.cl_scope.specs.View.{env_of, visible_in}
use Rattle.cl_faults.specs.View.{looked_in}
use Rattle.cl_faults.specs.Least.{IsLeast}
use Rattle.cl_faults.proofs.PlacesAside.{places_aside}
use Rattle.cl_check.specs.Walk.{kind_at}

same_kind : (places : List Place) (e : rust.Environment) (w : List ℕ) (parts : Forest) (ks : List (Option Kind))
    (form : Form) → kind_step (env_of places e) form w parts ks ≡ kind_step (visible_in e) form w parts ks
unfolding kind_step
same_kind places e w parts ks forms.UnitNode = refl
same_kind places e w parts ks form = refl

pub kind_aside : (places : List Place) (e : rust.Environment) (role : Role) (t : Syntax) (ks : List (Option Kind)) →
    kind_at (looked_in (env_of places e) role t ks) ≡ kind_at (looked_in (visible_in e) role t ks)
kind_aside places e role (node form w f l parts) ks = same_kind places e w parts ks form

pub least_aside : (asked : Asked) (places : List Place) (e : rust.Environment) (role : Role) (t : Syntax)
    (ks : List (Option Kind)) (o : Option Fault) → IsLeast asked (looked_in (visible_in e) role t ks) o →
    IsLeast asked (looked_in (env_of places e) role t ks) o
least_aside asked places e role t ks None h = λ k. places_aside asked places e role t ks k ∙ h k
least_aside asked places e role t ks (Some k) h = record {
  at = places_aside asked places e role t ks k ∙ h.at;
  least = λ j g. places_aside asked places e role t ks j ∙ h.least j g;
}
