-- Lines of a block behind each other: what is in hand behind some of them, and what each of them is sound for.
use Rattle.std.proofs.Common.{◌≡◌, List, [], Some, Bool, false, refl, ap, sym, ◌∙◌, subst, inl, inr}
use Rattle.cl_model.specs.Calls.{function_at}
use Rattle.cl_model.specs.Tree.{Function, Program}
use Rattle.cl_model.specs.Valid.{Scope}
use Rattle.cl_tree.specs.declared.tree.Form.TheVariants as forms
use Rattle.cl_tree.specs.Syntax.{Forest, none, more, joined, last_of}
use Rattle.cl_meaning.specs.declared.kind.Role.TheVariants as roles
use Rattle.cl_meaning.specs.Environment.{Env, Variable, Array}
use Rattle.cl_meaning.specs.Visible.{Before, behind, behind_parts, later}
use Rattle.cl_meaning.specs.Faults.{Asked}
use Rattle.cl_check_sound.specs.Shape.{AreLines}
use Rattle.cl_check_sound.specs.Sound.{SoundParts}
use Rattle.cl_check_sound.proofs.Grown.{Grown, Within, within_later}
use Rattle.cl_check_sound.proofs.Growth.{declaration_grows}
use Rattle.cl_check_sound.proofs.Growing.{StatementGrows, LinesGrow, SwitchGrows, growing}
use Rattle.cl_check_sound.proofs.Facing.{Finals}
use Rattle.cl_check_sound.proofs.Declarators.{declaration_line}
use Rattle.cl_check_sound.proofs.Induction.{of_statement, of_lines}
use Rattle.cl_check_sound.proofs.Parts.{line_behind, line_sound}
use Rattle.cl_check_sound.proofs.Stating.{Here, here_later, here_line}
use Rattle.cl_short_vec.specs.Kinds.{Names}
use Rattle.cl_short_vec.proofs.Small.{SmallNames}
use Rattle.cl_short_vec_correct.proofs.Says.{Says, OwnNames}
use Rattle.cl_short_vec_correct.proofs.Stands.{Stands, Ends}
use Rattle.cl_short_vec_correct.proofs.Moves.{ends_before}
use Rattle.cl_short_vec_correct.proofs.Whole.{WholeNames}
use Rattle.cl_short_vec_correct.proofs.Reaches.{AreNamed}
use Rattle.cl_short_vec_correct.proofs.Seen.{Intrinsics}
use Rattle.cl_short_vec_correct.proofs.KnownNames.{known_same, declared_known}

-- ---- lines in front, and those behind them

pub joined_again : (a b c : Forest) → joined (joined a b) c ≡ joined a (joined b c)
joined_again none b c = refl
joined_again (more p ps) b c = ap (λ z. more p z) (joined_again ps b c)

pub front_sound : (asked : Asked) (ps rest : Forest) (env : Env) (b : Before) →
    SoundParts asked env forms.BlockNode b (joined ps rest) → SoundParts asked env forms.BlockNode b ps
unfolding later
front_sound asked none rest env b s = tt
front_sound asked (more p ps) rest env b s =
    (s.0, front_sound asked ps rest (behind env p) (Some (last_of p)) s.1)

pub rest_sound : (asked : Asked) (ps rest : Forest) (env : Env) (b : Before) (front : Bool) →
    SoundParts asked env forms.BlockNode b (joined ps rest) →
    (b' : Before) × SoundParts asked (behind_parts env forms.BlockNode front ps) forms.BlockNode b' rest
unfolding behind_parts later
rest_sound asked none rest env b front s = (b, s)
rest_sound asked (more p ps) rest env b front s =
    rest_sound asked ps rest (behind env p) (Some (last_of p)) false s.1

no_line_behind : (env : Env) (front : Bool) → behind_parts env forms.BlockNode front none ≡ env
unfolding behind_parts
no_line_behind env front = refl

module _ (P : Program) (f : Function) (asked : Asked) (vars : List Variable) (arrs : List Array)
    (fin : Finals f vars arrs) where
  abbrev Ending : Env → Type 0
  Ending = Ends P f asked vars arrs

  abbrev HereIn : Scope → Env → Type 0
  HereIn = Here P f asked.missing

  -- behind some lines
  pub lines_here : (ps : Forest) (env : Env) (b : Before) (front : Bool) (scope : Scope) → AreLines ps →
      SoundParts asked env forms.BlockNode b ps → HereIn scope env →
      Ending (behind_parts env forms.BlockNode front ps) →
      (scope' : Scope) × HereIn scope' (behind_parts env forms.BlockNode front ps)
  lines_here none env b front scope h s here e =
      (scope, subst (λ z. HereIn scope z) (sym (no_line_behind env front)) here)
  lines_here (more p ps) env b front scope (inl h, hs) s here e =
      let x = line_sound asked env b p ps s in
      let mid = behind env p in
      let g = declaration_grows asked env roles.Other p h x.0 here.within.deep in
      let lb = line_behind env front p ps in
      let e2 = subst Ending lb e in
      let gr = of_lines asked StatementGrows LinesGrow SwitchGrows (growing asked) mid [] (Some (last_of p)) ps hs x.1
      (within_later env mid here.within g) false in
      let e1 = ends_before P f asked vars arrs mid (behind_parts mid forms.BlockNode false ps) gr e2 in
      let l = declaration_line P f asked vars arrs scope env [] roles.Other p h x.0 here.within.deep here.at fin e1.0
      e1.1 in
      let hm = here_line P f asked.missing scope env mid _ g l here in
      let r = lines_here ps mid (Some (last_of p)) false l.scope' hs x.1 hm e2 in
      (r.0, subst (λ z. HereIn r.0 z) (sym lb) r.1)
  lines_here (more p ps) env b front scope (inr h, hs) s here e =
      let x = line_sound asked env b p ps s in
      let mid = behind env p in
      let lb = line_behind env front p ps in
      let k = of_statement asked StatementGrows LinesGrow SwitchGrows (growing asked) env [] roles.Other p h x.0
      here.within in
      let hm = here_later P f asked.missing scope env mid k here in
      let r = lines_here ps mid (Some (last_of p)) false scope hs x.1 hm (subst Ending lb e) in
      (r.0, subst (λ z. HereIn r.0 z) (sym lb) r.1)

  pub lines_grow : (ps : Forest) (env : Env) (b : Before) (front : Bool) → AreLines ps →
      SoundParts asked env forms.BlockNode b ps → Within env → Grown env (behind_parts env forms.BlockNode front ps)
  lines_grow ps env b front h s w =
      of_lines asked StatementGrows LinesGrow SwitchGrows (growing asked) env [] b ps h s w front

  -- names that are known without a declaration, behind some lines
  pub lines_known : (ps : Forest) (env : Env) (b : Before) (front : Bool) → AreLines ps →
      SoundParts asked env forms.BlockNode b ps → Within env → Intrinsics env →
      Intrinsics (behind_parts env forms.BlockNode front ps)
  lines_known none env b front h s w k = subst Intrinsics (sym (no_line_behind env front)) k
  lines_known (more p ps) env b front (inl h, hs) s w k =
      let x = line_sound asked env b p ps s in
      let g = declaration_grows asked env roles.Other p h x.0 w.deep in
      subst Intrinsics (sym (line_behind env front p ps))
      (lines_known ps (behind env p) (Some (last_of p)) false hs x.1 (within_later env (behind env p) w g)
      (declared_known env p h w.deep k))
  lines_known (more p ps) env b front (inr h, hs) s w k =
      let x = line_sound asked env b p ps s in
      let q = of_statement asked StatementGrows LinesGrow SwitchGrows (growing asked) env [] roles.Other p h x.0 w in
      subst Intrinsics (sym (line_behind env front p ps))
      (lines_known ps (behind env p) (Some (last_of p)) false hs x.1 (within_later env (behind env p) w q.grown)
      (known_same env (behind env p) (ap (λ z. z.functions) q.grown.frame) q.same k))

  -- what is in hand behind some lines, but for what names say
  pub stands_lines : (ps : Forest) (names after : Names) (env : Env) (b : Before) (front : Bool) → AreLines ps →
      SoundParts asked env forms.BlockNode b ps → Stands P f asked vars arrs names env →
      Ending (behind_parts env forms.BlockNode front ps) → Says after (behind_parts env forms.BlockNode front ps) →
      OwnNames after → SmallNames after → WholeNames after → AreNamed after →
      Stands P f asked vars arrs after (behind_parts env forms.BlockNode front ps)
  stands_lines ps names after env b front h s st e says own small whole named =
      let x = lines_here ps env b front st.scope h s st.here e in
      let g = lines_grow ps env b front h s st.here.within in
      record {
        scope = x.0;
        here = x.1;
        says = says;
        own = own;
        small = small;
        whole = whole;
        named = named;
        known = lines_known ps env b front h s st.here.within st.known;
        flags = ap (λ z. z.flags) g.frame ∙ st.flags;
        owned = ap (λ z. (function_at P z.owner.number).variables) g.frame ∙ st.owned;
      }
