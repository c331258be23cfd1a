-- Each vector statement of a function of the unit does its steps, where those of the lines of a block do.
use Rattle.std.proofs.Common.{◌≡◌, ℕ, List, [], length, map, None, true, false, refl, ap, sym, ◌∙◌, subst}
use Rattle.std.specs.Str.{bytes_eq}
use Rattle.cl_model.specs.Tree.{Program, Function}
use Rattle.cl_model.specs.Calls.{function_at}
use Rattle.cl_model.specs.Valid.{numbers_below}
use Rattle.cl_tree.specs.declared.tree.Form.TheVariants as forms
use Rattle.cl_tree.specs.Syntax.{node, Forest}
use Rattle.cl_meaning.specs.OwnWords.{name_in}
use Rattle.cl_meaning.specs.declared.kind.Role.TheVariants as roles
use Rattle.cl_meaning.specs.Environment.{Env, Variable, Array}
use Rattle.cl_meaning.specs.Visible.{inside, behind_parts, in_definition, definition_of, defined_meaning}
use Rattle.cl_meaning.specs.Faults.{Asked}
use Rattle.cl_check_sound.specs.Shape.{AreLinesOf, IsDefinitionOf, BehindHeadsOf}
use Rattle.cl_check_sound.specs.Sound.{SoundTree, SoundParts}
use Rattle.cl_check_sound.specs.Fits.{Fits, MeaningFits}
use Rattle.cl_check_sound.proofs.Grown.{extends_same}
use Rattle.cl_check_sound.proofs.Naming.{Scoped}
use Rattle.cl_check_sound.proofs.Facing.{Finals}
use Rattle.cl_check_sound.proofs.Constants.{OneScope}
use Rattle.cl_check_sound.proofs.Functions as functions
use Rattle.cl_check_sound.proofs.Functions.{bare, body_env, ending, lines_in}
use Rattle.cl_short_vec.specs.declared.roles.Role.TheVariants.{Outer}
use Rattle.cl_short_vec.specs.Kinds.{Names}
use Rattle.cl_short_vec.specs.Marks.{marked, marked_parts, kind_by}
use Rattle.cl_short_vec.specs.Roles.{role_of}
use Rattle.cl_short_vec.specs.Faults.{refusals}
use Rattle.cl_short_vec.specs.Unit.{scalarised, all_scalarised, block_lines}
use Rattle.cl_short_vec_correct.specs.Each.{Throughout}
use Rattle.cl_short_vec_correct.proofs.Says.{AllOwn, says_nothing, owns_nothing}
use Rattle.cl_short_vec_correct.proofs.Seen.{Intrinsics}
use Rattle.cl_short_vec_correct.proofs.KnownNames.{known_same}
use Rattle.cl_short_vec_correct.proofs.Numbered.{IsStored, typed_variables}
use Rattle.cl_short_vec_correct.proofs.Stands.{Stands, Ends}
use Rattle.cl_short_vec_correct.proofs.Forms.{AllStay, Does, PartsDoes, parts_stay, block_stays}
use Rattle.cl_short_vec_correct.proofs.UnitNames.{UnitNames}
use Rattle.cl_short_vec_correct.proofs.FunctionFronts.{WordedParts, Blocked, blocked}
use Rattle.cl_short_vec_correct.proofs.NamesSpelled.{HaveWords}

-- each vector statement of the lines of a function's block does its steps
abbrev pub LinesDo : Program → Asked → Type 0
LinesDo P asked = (g : Function) (vars : List Variable) (arrs : List Array) → Finals g vars arrs → (lines : Forest)
    (names : Names) (env : Env) → AreLinesOf true lines → HaveWords lines → AllOwn lines →
    AllStay (marked_parts forms.BlockNode lines names true lines) → Stands P g asked vars arrs names env →
    SoundParts asked env forms.BlockNode None
    (block_lines (marked_parts forms.BlockNode lines names true lines)) →
    Ends P g asked vars arrs (behind_parts env forms.BlockNode true
    (block_lines (marked_parts forms.BlockNode lines names true lines))) →
    PartsDoes P forms.BlockNode (marked_parts forms.BlockNode lines names true lines) true env

-- nothing is refused in the parts of a function
function_stays : (names : Names) (w : List ℕ) (f l : ℕ) (ps : Forest) →
    refusals Outer (marked names (node forms.FunctionNode w f l ps)) ≡ [] →
    AllStay (marked_parts forms.FunctionNode ps names true ps)
unfolding role_of kind_by marked
function_stays names w f l ps r = parts_stay Outer (marked names (node forms.FunctionNode w f l ps)) (λ x y p. refl) r

-- the lines of what stands for a block
lines_are : (names : Names) (w : List ℕ) (f l : ℕ) (lines : Forest) →
    lines_in (scalarised (marked names (node forms.BlockNode w f l lines))) ≡
    block_lines (marked_parts forms.BlockNode lines names true lines)
unfolding scalarised marked
lines_are names w f l lines = refl

-- what stands for a function
pub function_made : (names : Names) (w : List ℕ) (f l : ℕ) (parts : Forest) →
    scalarised (marked names (node forms.FunctionNode w f l parts)) ≡
    node forms.FunctionNode w f l (all_scalarised (marked_parts forms.FunctionNode parts names true parts))
unfolding scalarised marked
function_made names w f l parts = refl

pub function_parts : (asked : Asked) (u : Env) (w : List ℕ) (f l : ℕ) (parts : Forest) →
    SoundTree asked u roles.Other (node forms.FunctionNode w f l parts) →
    SoundParts asked (in_definition u (name_in w)) forms.FunctionNode None parts
unfolding inside
function_parts asked u w f l parts s = s.0

module _ (P : Program) (asked : Asked) (each : LinesDo P asked) where
  function_by : (names : Names) (u : Env) (w : List ℕ) (f l : ℕ) (parts : Forest) →
      PartsDoes P forms.FunctionNode (marked_parts forms.FunctionNode parts names true parts) true
      (in_definition u (name_in w)) → Does P names u (node forms.FunctionNode w f l parts)
  unfolding Throughout marked inside
  function_by names u w f l parts d sites = d sites

  -- the block of a function shares the scope of its parameters
  body_does : (names : Names) (eb : Env) (w : List ℕ) (f l : ℕ) (lines : Forest) → eb.in_body ≡ true →
      PartsDoes P forms.BlockNode (marked_parts forms.BlockNode lines names true lines) true (body_env eb) →
      Does P names eb (node forms.BlockNode w f l lines)
  unfolding Throughout marked inside
  body_does names eb w f l lines e d sites =
      subst (PartsDoes P forms.BlockNode (marked_parts forms.BlockNode lines names true lines) true)
      (sym (functions.body_is eb e)) d sites

  module _ (u : Env) (names : Names) (w : List ℕ) (f l : ℕ) (parts : Forest)
      (x : Blocked P asked (in_definition u (name_in w)) [] true (bare w) names parts parts) where
    abbrev made : Forest
    made = all_scalarised (marked_parts forms.FunctionNode parts names true parts)

    abbrev plain : Function
    plain = functions.plain asked u [] w f l made x.fr

    abbrev env : Env
    env = body_env x.fr.eb

    abbrev lines : Forest
    lines = block_lines (marked_parts forms.BlockNode x.lines x.inner true x.lines)

    abbrev vars : List Variable
    vars = (ending x.fr.eb x.fr.block).variables

    abbrev arrs : List Array
    arrs = (ending x.fr.eb x.fr.block).arrays

    same_lines : lines_in x.fr.block ≡ lines
    same_lines = ap lines_in x.same ∙ lines_are x.inner x.word x.first x.last x.lines

    block_does : (us : OneScope u) (fits : (g : Function) → Fits P g asked.missing u) (seen : Scoped [] u)
        (named : (g : Function) (q : List ℕ) → bytes_eq (name_in w) q ≡ true →
        MeaningFits P g asked.missing u.functions q (defined_meaning (definition_of u (name_in w)))) →
        Intrinsics u → u.flags ≡ false → IsStored P (in_definition u (name_in w)).owner.number u w made →
        Does P names u (node forms.FunctionNode w f l parts)
    block_does us fits seen named known flags stored =
        let n = x.inner in
        let kn = x.known (known_same u (in_definition u (name_in w)) refl refl known) in
        let st : Stands P plain asked vars arrs n env = record {
          scope = numbers_below (length x.fr.eb.variables);
          here = functions.here asked u [] w f l made x.fr P us (fits plain) seen (named plain);
          says = says_nothing n env x.unit_names.plain;
          own = owns_nothing n x.unit_names.plain;
          small = x.unit_names.small;
          whole = x.unit_names.whole;
          named = x.unit_names.named;
          known = kn;
          flags = ap (λ (z : Env). z.flags) x.fr.entered.frame ∙ flags;
          owned = ap (λ z. (function_at P z).variables) x.fr.entered.number ∙ stored ∙
              ap (λ z. map (λ (v : Variable). v.kind) z) (sym (typed_variables asked u [] w f l made x.fr));
        } in
        let so = subst (SoundParts asked env forms.BlockNode None) same_lines
        (functions.sound asked u [] w f l made x.fr).1 in
        let e = ap (behind_parts env forms.BlockNode true) same_lines in
        let en : Ends P plain asked vars arrs (behind_parts env forms.BlockNode true lines) =
        subst (Ends P plain asked vars arrs) e (extends_same vars, extends_same arrs) in
        function_by names u w f l parts (x.does (body_does n x.fr.eb x.word x.first x.last x.lines
        (functions.marked asked u [] w f l made x.fr)
        (each plain vars arrs (functions.finals asked u [] w f l made x.fr P us (fits plain) seen (named plain))
        x.lines n
        env x.lined x.words x.own (block_stays n x.word x.first x.last x.lines x.stays) st so en)))

  -- a function in which no node is at fault
  pub function_does : (u : Env) (names : Names) (w : List ℕ) (f l : ℕ) (parts : Forest) →
      BehindHeadsOf true (IsDefinitionOf true) parts → WordedParts parts →
      refusals Outer (marked names (node forms.FunctionNode w f l parts)) ≡ [] → UnitNames names →
      SoundTree asked u roles.Other (scalarised (marked names (node forms.FunctionNode w f l parts))) → OneScope u →
      ((g : Function) → Fits P g asked.missing u) → Scoped [] u → ((g : Function) (q : List ℕ) →
      bytes_eq (name_in w) q ≡ true →
      MeaningFits P g asked.missing u.functions q (defined_meaning (definition_of u (name_in w)))) →
      Intrinsics u → u.flags ≡ false → IsStored P (in_definition u (name_in w)).owner.number u w
      (all_scalarised (marked_parts forms.FunctionNode parts names true parts)) →
      Does P names u (node forms.FunctionNode w f l parts)
  function_does u names w f l parts h wo r un s us fits seen named known flags stored =
      let made = all_scalarised (marked_parts forms.FunctionNode parts names true parts) in
      let s' = subst (SoundTree asked u roles.Other) (function_made names w f l parts) s in
      block_does u names w f l parts
      (blocked P asked (in_definition u (name_in w)) [] None true (bare w) names parts parts h wo
      (function_stays names w f l parts r) un (function_parts asked u w f l made s')) us fits seen named known flags
      stored
