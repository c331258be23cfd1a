-- What the grammar spells as an expression is read.
use Rattle.std.proofs.Common.{◌≡◌, ℕ, zero, suc, ◌+◌, ◌-◌, ◌≤◌, Bool, true, false, cond, List, [], ◌∷◌, ◌++◌, refl}
use Rattle.std.proofs.Common.{ap, ◌∙◌, append_assoc, arith}
use Rattle.std.specs.Prelude.{nat_le}
use Rattle.std.proofs.lemmas.Bool.Decides.{nat_tests}
use Rattle.cl_tree.specs.declared.terminal.Terminal.{Terminal}
use Rattle.cl_tree.specs.declared.terminal.Terminal.TheVariants as terminals
use Rattle.cl_tree.specs.declared.terminal.Leaf.{Leaf}
use Rattle.cl_tree.specs.declared.tree.Form.TheVariants as forms
use Rattle.cl_tree.specs.Precedence.{joins, form_of, assigns, prefixes}
use Rattle.cl_tree.specs.Syntax.{Syntax, Forest, more, nesting, deepest}
use Rattle.cl_tree.specs.Nodes.{Spot, tok, pair_node, index_node, step_node, selection_node, call_node}
use Rattle.cl_tree.specs.Nodes.{paren_node}
use Rattle.cl_tree.specs.Grammar as grammar
use Rattle.cl_tree.specs.Grammar.{Expr, Assign, Cond, Cast, Unary, Postfix, Level, Many}
use Rattle.cl_tree.specs.Grammar.{Comma, one, list, Spells}
use Rattle.cl_read.specs.Starts.{starts_type, starts_expression, postfixes}
use Rattle.cl_read.specs.Reading.{Got, Reader, ◌>>=◌, done, begins, is, choose, eat_in, eat, chain, Readers, is_unary}
use Rattle.cl_read.specs.Reading.{call_of, primary_of, postfix_step, postfixed, paren_of, opened, sizeof_of}
use Rattle.cl_read.specs.Reading.{operand_of, unary_of, cast_of, level_step, level_of, cond_of, assign_of, expr_step}
use Rattle.cl_read.specs.Reading.{expr_of, selection_of}
use Rattle.cl_read.proofs.Tails.{excluded, not_begun}
use Rattle.cl_read.proofs.First.{expression_first, type_first}
use Rattle.cl_read.proofs.Chains.{chain_stops, chain_goes}
use Rattle.cl_read.proofs.Sound.{AllGood, commas_shrink}
use Rattle.cl_read.proofs.Follow.{Behind, behind_less, behind_not, behind_joins, behind_join, behind_postfixes}
use Rattle.cl_read.proofs.Follow.{behind_assigns, behind_assign, nested, AllFull, onto}
use Rattle.cl_read.proofs.Complete.{commas_follow, commas_read}

pub unary_is : {t : Syntax} {x : List Leaf} → Spells Unary (one t) x → is_unary t ≡ true
unary_is (grammar.unary_postfix (grammar.postfix_primary (grammar.number n))) = refl
unary_is (grammar.unary_postfix (grammar.postfix_primary (grammar.truth n))) = refl
unary_is (grammar.unary_postfix (grammar.postfix_primary (grammar.variable n))) = refl
unary_is (grammar.unary_postfix (grammar.postfix_primary (grammar.call_none n o c))) = refl
unary_is (grammar.unary_postfix (grammar.postfix_primary (grammar.call n o h a c))) = refl
unary_is (grammar.unary_postfix (grammar.postfix_primary (grammar.paren o h c))) = refl
unary_is (grammar.unary_postfix (grammar.index h o e c)) = refl
unary_is (grammar.unary_postfix (grammar.step h m)) = refl
unary_is (grammar.unary_postfix (grammar.selection h d m)) = refl
unary_is (grammar.unary_step m h) = refl
unary_is (grammar.unary_prefix j m q h) = refl
unary_is (grammar.unary_sizeof w o h c) = refl

expression_no_type : (j : Terminal) → starts_expression j ≡ true → starts_type j ≡ false
expression_no_type terminals.Qualifier e = absurd cc
expression_no_type terminals.Space e = absurd cc
expression_no_type terminals.TypeWord e = absurd cc
expression_no_type terminals.Sign e = absurd cc
expression_no_type terminals.Char e = absurd cc
expression_no_type terminals.Int e = absurd cc
expression_no_type terminals.Length e = absurd cc
expression_no_type _ e = refl

at_most : (a n : ℕ) → a ≤ n → nat_le a n ≡ true
at_most a n h = grind (arith, nat_tests)

module _ (n : ℕ) (low : Readers) (g : AllGood low) (f : AllFull low n) where
  call_reads : (m o : Spot) {t : Syntax} {x : List Leaf} → Spells Assign (one t) x →
      {a : List Spot} {ts : Forest} {y : List Leaf} → Spells (Many (Comma Assign)) (list a ts) y → (c : Spot) →
      nesting t ≤ n → deepest ts ≤ n → (rest : List Leaf) →
      call_of n low m o ((x ++ (y ++ (tok terminals.Close c ∷ []))) ++ rest) ≡ Got (call_node m o a (more t ts) c) rest
  unfolding call_of
  call_reads m o {x = x} h {y = y} i c d e rest =
      let not_close : begins (is terminals.Close) (x ++ (y ++ (tok terminals.Close c ∷ rest))) ≡ false =
      not_begun starts_expression terminals.Close refl (x ++ (y ++ (tok terminals.Close c ∷ rest)))
      (expression_first refl h (y ++ (tok terminals.Close c ∷ rest))) in
      let follows : Behind 12 (y ++ (tok terminals.Close c ∷ rest)) =
      commas_follow low.assign Assign (commas_shrink low.assign Assign g.assign) n (λ t x h d r b.
      f.assign h d r b) i (tok terminals.Close c ∷ rest) refl in
      rw (
        append_assoc x (y ++ (tok terminals.Close c ∷ [])) rest,
        append_assoc y (tok terminals.Close c ∷ []) rest,
        not_close,
      )
      (onto _ (f.assign h d (y ++ (tok terminals.Close c ∷ rest)) follows)
      (onto _ (commas_read low.assign Assign (commas_shrink low.assign Assign g.assign) n (λ t x h d r b.
      f.assign h d r b) i e (tok terminals.Close c ∷ rest) refl refl) refl))

  index_reads : (l : Syntax) (o : Spot) {e : Syntax} {y : List Leaf} → Spells Expr (one e) y → nesting e ≤ n →
      (c : Spot) (rest : List Leaf) →
      postfix_step n low l (tok terminals.OpenBracket o ∷ (y ++ (tok terminals.CloseBracket c ∷ rest))) ≡
      Got (index_node l o e c) rest
  unfolding postfix_step
  index_reads l o {y = y} h d c rest = onto _ (f.expr h d (tok terminals.CloseBracket c ∷ rest) refl) refl

  step_reads : (l : Syntax) (m : Spot) (rest : List Leaf) → postfix_step n low l (tok terminals.Step m ∷ rest) ≡
      Got (step_node l m) rest
  unfolding postfix_step
  step_reads l m rest = refl

  selection_reads : (l : Syntax) (d m : Spot) (rest : List Leaf) →
      postfix_step n low l (tok terminals.Point d ∷ tok terminals.Name m ∷ rest) ≡ Got (selection_node l d m) rest
  unfolding postfix_step selection_of
  selection_reads l d m rest = refl

  -- a reader that is that of a parenthesis or else that of an operand
  module _ (q : Reader Syntax) (opens : (o : Spot) (ts : List Leaf) → begins starts_expression ts ≡ true →
      q (tok terminals.Open o ∷ ts) ≡ paren_of n low o ts) (other : (ts : List Leaf) →
      begins (is terminals.Open) ts ≡ false → q ts ≡ operand_of n low ts) where
    -- it comes to the parts behind a postfix
    postfix_goes : {l : Syntax} {x : List Leaf} → Spells Postfix (one l) x → nesting l ≤ suc n → (rest : List Leaf) →
        begins (is terminals.Open) rest ≡ false → (m : ℕ) × (n + 1 ≤ m + nesting l) ×
        (q (x ++ rest) ≡ chain n postfixes (postfix_step n low) m l rest)
    unfolding operand_of primary_of postfixed paren_of call_of
    postfix_goes (grammar.postfix_primary (grammar.number m)) d rest b =
        (n, omega arith, other (tok terminals.Number m ∷ rest) refl)
    postfix_goes (grammar.postfix_primary (grammar.truth m)) d rest b =
        (n, omega arith, other (tok terminals.Truth m ∷ rest) refl)
    postfix_goes (grammar.postfix_primary (grammar.variable m)) d rest b =
        (n, omega arith, other (tok terminals.Name m ∷ rest) refl ∙ (rw b refl))
    postfix_goes (grammar.postfix_primary (grammar.call_none m o c)) d rest b =
        (n, omega arith, other (tok terminals.Name m ∷ tok terminals.Open o ∷ tok terminals.Close c ∷ rest) refl)
    postfix_goes (grammar.postfix_primary (grammar.call m o {t = t} {x = x} h {ts = ts} {y = y} i c)) d rest b = (
      n,
      omega arith,
      other (tok terminals.Name m ∷ tok terminals.Open o ∷
          ((x ++ (y ++ (tok terminals.Close c ∷ []))) ++ rest)) refl ∙
          onto (λ l. chain n postfixes (postfix_step n low) n l) (call_reads m o h i c (omega arith) (omega arith)
          rest) refl,
    )
    postfix_goes (grammar.postfix_primary (grammar.paren o {t = t} {x = x} h c)) d rest b =
        let start : (x ++ (tok terminals.Close c ∷ [])) ++ rest ≡ x ++ (tok terminals.Close c ∷ rest) =
        append_assoc x (tok terminals.Close c ∷ []) rest in (
          n,
          omega arith,
          ap (λ l. q (tok terminals.Open o ∷ l)) start ∙
              opens o (x ++ (tok terminals.Close c ∷ rest)) (expression_first refl h (tok terminals.Close c ∷ rest)) ∙
              onto (λ e. eat terminals.Close >>= λ c. postfixed n low (paren_node o e c))
              (f.expr h (omega arith) (tok terminals.Close c ∷ rest) refl) refl,
        )
    postfix_goes (grammar.index {l = l} {x = x} h o {e = e} {y = y} k c) d rest b =
        let before = postfix_goes h (omega arith) (tok terminals.OpenBracket o ∷
        (y ++ (tok terminals.CloseBracket c ∷ rest))) refl in
        let start : (x ++ (tok terminals.OpenBracket o ∷ (y ++ (tok terminals.CloseBracket c ∷ [])))) ++ rest ≡ x ++
        (tok terminals.OpenBracket o ∷ (y ++ (tok terminals.CloseBracket c ∷ rest))) =
        append_assoc x (tok terminals.OpenBracket o ∷ (y ++ (tok terminals.CloseBracket c ∷ []))) rest ∙
        ap (λ z. x ++ (tok terminals.OpenBracket o ∷ z)) (append_assoc y (tok terminals.CloseBracket c ∷ []) rest)
        in (
          before.0 - 1,
          omega (arith, before.1),
          ap q start ∙ before.2 ∙ chain_goes n postfixes (postfix_step n low) before.0 l
              (tok terminals.OpenBracket o ∷ (y ++ (tok terminals.CloseBracket c ∷ rest))) refl
              (at_most (nesting l) n (omega arith)) (omega (arith, before.1))
              ∙ onto (chain n postfixes (postfix_step n low) (before.0 - 1)) (index_reads l o k (omega arith) c rest)
              refl,
        )
    postfix_goes (grammar.step {l = l} {x = x} h m) d rest b =
        let before = postfix_goes h (omega arith) (tok terminals.Step m ∷ rest) refl in (
          before.0 - 1,
          omega (arith, before.1),
          ap q (append_assoc x (tok terminals.Step m ∷ []) rest) ∙ before.2 ∙
              chain_goes n postfixes (postfix_step n low) before.0 l (tok terminals.Step m ∷ rest) refl
              (at_most (nesting l) n (omega arith)) (omega (arith, before.1))
              ∙ onto (chain n postfixes (postfix_step n low) (before.0 - 1)) (step_reads l m rest) refl,
        )
    postfix_goes (grammar.selection {l = l} {x = x} h p m) d rest b =
        let behind = tok terminals.Point p ∷ tok terminals.Name m ∷ rest in
        let before = postfix_goes h (omega arith) behind refl in (
          before.0 - 1,
          omega (arith, before.1),
          ap q (append_assoc x (tok terminals.Point p ∷ tok terminals.Name m ∷ []) rest) ∙ before.2 ∙
              chain_goes n postfixes (postfix_step n low) before.0 l behind refl
              (at_most (nesting l) n (omega arith)) (omega (arith, before.1))
              ∙ onto (chain n postfixes (postfix_step n low) (before.0 - 1)) (selection_reads l p m rest) refl,
        )

    full_operand : {t : Syntax} {x : List Leaf} → Spells Unary (one t) x → nesting t ≤ suc n → (rest : List Leaf) →
        Behind 0 rest → q (x ++ rest) ≡ Got t rest
    unfolding operand_of sizeof_of
    full_operand (grammar.unary_postfix {t = t} h) d rest b =
        let before = postfix_goes h d rest (behind_not 0 terminals.Open rest refl b) in
        before.2 ∙ chain_stops n postfixes (postfix_step n low) before.0 t rest (behind_postfixes rest b)
    full_operand (grammar.unary_step m {x = x} h) d rest b =
        other (tok terminals.Step m ∷ (x ++ rest)) refl ∙ onto _ (f.unary h (omega arith) rest b) refl
    full_operand (grammar.unary_prefix j m e {x = x} h) d rest b =
        let one_ : begins (is terminals.Step) (tok j m ∷ (x ++ rest)) ≡ false =
        not_begun prefixes terminals.Step refl (tok j m ∷ (x ++ rest)) e in
        other (tok j m ∷ (x ++ rest)) (not_begun prefixes terminals.Open refl (tok j m ∷ (x ++ rest)) e) ∙
        (rw (one_, e) (onto _ (f.cast h (omega arith) rest b) refl))
    full_operand (grammar.unary_sizeof w o {x = x} h c) d rest b =
        other (tok terminals.Sizeof w ∷ tok terminals.Open o ∷ ((x ++ (tok terminals.Close c ∷ [])) ++ rest)) refl
        ∙ (rw (append_assoc x (tok terminals.Close c ∷ []) rest)
        (onto _ (f.type' h (omega arith) (tok terminals.Close c ∷ rest) refl) refl))

  cast_opens : (o : Spot) (ts : List Leaf) → begins starts_expression ts ≡ true →
      cast_of n low (tok terminals.Open o ∷ ts) ≡ paren_of n low o ts
  unfolding cast_of opened
  cast_opens o ts b = let c : begins starts_type ts ≡ false =
      excluded starts_expression starts_type expression_no_type ts b in rw c refl

  cast_other : (ts : List Leaf) → begins (is terminals.Open) ts ≡ false → cast_of n low ts ≡ operand_of n low ts
  unfolding cast_of
  cast_other ts b = rw b refl

  unary_opens : (o : Spot) (ts : List Leaf) → begins starts_expression ts ≡ true →
      unary_of n low (tok terminals.Open o ∷ ts) ≡ paren_of n low o ts
  unfolding unary_of
  unary_opens o ts b = refl

  unary_other : (ts : List Leaf) → begins (is terminals.Open) ts ≡ false → unary_of n low ts ≡ operand_of n low ts
  unfolding unary_of
  unary_other ts b = rw b refl

  pub full_unary : {t : Syntax} {x : List Leaf} → Spells Unary (one t) x → nesting t ≤ suc n → (rest : List Leaf) →
      Behind 0 rest → unary_of n low (x ++ rest) ≡ Got t rest
  full_unary h d rest b = full_operand (unary_of n low) unary_opens unary_other h d rest b

  pub full_cast : {t : Syntax} {x : List Leaf} → Spells Cast (one t) x → nesting t ≤ suc n → (rest : List Leaf) →
      Behind 0 rest → cast_of n low (x ++ rest) ≡ Got t rest
  unfolding cast_of opened
  full_cast (grammar.cast_unary h) d rest b = full_operand (cast_of n low) cast_opens cast_other h d rest b
  full_cast (grammar.cast o {x = x} h c {y = y} i) d rest b =
      let e : begins starts_type (x ++ (tok terminals.Close c ∷ (y ++ rest))) ≡ true =
      type_first h (tok terminals.Close c ∷ (y ++ rest)) in
      rw (
        append_assoc x (tok terminals.Close c ∷ y) rest,
        e,
      ) (onto _ (f.type' h (omega arith) (tok terminals.Close c ∷ (y ++ rest)) refl)
      (onto _ (f.cast i (omega arith) rest b) refl))

  -- the levels that nest to the left
  module _ (k : ℕ) (full : (t : Syntax) (x : List Leaf) → Spells (Level k) (one t) x → nesting t ≤ suc n →
      (rest : List Leaf) → Behind k rest → level_of n low k (x ++ rest) ≡ Got t rest) where
    level_goes : {l : Syntax} {x : List Leaf} → Spells (Level (suc k)) (one l) x → nesting l ≤ suc n →
        (rest : List Leaf) → Behind k rest → (m : ℕ) × (n + 1 ≤ m + nesting l) ×
        (level_of n low (suc k) (x ++ rest) ≡ chain n (joins k) (level_step n low k) m l rest)
    unfolding level_of level_step
    level_goes (grammar.level_next {t = t} h) d rest b =
        (n, omega (arith, nested t), onto (λ l. chain n (joins k) (level_step n low k) n l) (full t _ h d rest b) refl)
    level_goes (grammar.level {l = l} {x = x} h j m q {r = r} {y = y} i) d rest b =
        let before = level_goes h (omega arith) (tok j m ∷ (y ++ rest)) (behind_join k j q m (y ++ rest)) in
        let step : level_step n low k l (tok j m ∷ (y ++ rest)) ≡ Got (pair_node (form_of k) l m r) rest =
        rw q (onto _ (f.level k i (omega arith) rest b) refl) in (
          before.0 - 1,
          omega (arith, before.1),
          ap (level_of n low (suc k)) (append_assoc x (tok j m ∷ y) rest) ∙ before.2
              ∙ chain_goes n (joins k) (level_step n low k) before.0 l (tok j m ∷ (y ++ rest)) q
              (at_most (nesting l) n (omega arith)) (omega (arith, before.1))
              ∙ onto (chain n (joins k) (level_step n low k) (before.0 - 1)) step refl,
        )

    full_next : {t : Syntax} {x : List Leaf} → Spells (Level (suc k)) (one t) x → nesting t ≤ suc n →
        (rest : List Leaf) → Behind (suc k) rest → level_of n low (suc k) (x ++ rest) ≡ Got t rest
    full_next {t} h d rest b =
        let before = level_goes h d rest (behind_less k (suc k) rest (omega arith) b) in
        before.2 ∙ chain_stops n (joins k) (level_step n low k) before.0 t rest (behind_joins k rest b)

  full_first : {t : Syntax} {x : List Leaf} → Spells (Level zero) (one t) x → nesting t ≤ suc n → (rest : List Leaf) →
      Behind zero rest → level_of n low zero (x ++ rest) ≡ Got t rest
  unfolding level_of
  full_first (grammar.level_cast h) d rest b = full_cast h d rest b

  pub full_level : (k : ℕ) {t : Syntax} {x : List Leaf} → Spells (Level k) (one t) x → nesting t ≤ suc n →
      (rest : List Leaf) → Behind k rest → level_of n low k (x ++ rest) ≡ Got t rest
  full_level zero h d rest b = full_first h d rest b
  full_level (suc k) h d rest b = full_next k (λ t x i e r c. full_level k i e r c) h d rest b

  pub full_cond : {t : Syntax} {x : List Leaf} → Spells Cond (one t) x → nesting t ≤ suc n → (rest : List Leaf) →
      Behind 11 rest → cond_of n low (x ++ rest) ≡ Got t rest
  unfolding cond_of
  full_cond (grammar.cond_level h) d rest b =
      let c : begins (is terminals.Question) rest ≡ false = behind_not 11 terminals.Question rest refl b in
      onto _ (full_level 10 h d rest (behind_less 10 11 rest (omega arith) b)) (rw c refl)
  full_cond (grammar.cond {x = x} h q {y = y} k c {z = z} l) d rest b =
      rw (
        append_assoc x (tok terminals.Question q ∷ (y ++ (tok terminals.Colon c ∷ z))) rest,
        append_assoc y (tok terminals.Colon c ∷ z) rest,
      )
      (onto _ (full_level 10 h (omega arith) (tok terminals.Question q ∷ (y ++ (tok terminals.Colon c ∷ (z ++ rest))))
      refl)
      (onto _ (f.expr k (omega arith) (tok terminals.Colon c ∷ (z ++ rest)) refl)
      (onto _ (f.cond' l (omega arith) rest b) refl)))

  level_of_unary : (k : ℕ) {t : Syntax} {x : List Leaf} → Spells Unary (one t) x → Spells (Level k) (one t) x
  level_of_unary zero h = grammar.level_cast (grammar.cast_unary h)
  level_of_unary (suc k) h = grammar.level_next (level_of_unary k h)

  pub full_assign : {t : Syntax} {x : List Leaf} → Spells Assign (one t) x → nesting t ≤ suc n → (rest : List Leaf) →
      Behind 12 rest → assign_of n low (x ++ rest) ≡ Got t rest
  unfolding assign_of
  full_assign (grammar.assign_cond {t = t} h) d rest b =
      onto _ (full_cond h d rest (behind_less 11 12 rest (omega arith) b)) (go (is_unary t))
    where
      go : (u : Bool) → cond u (choose assigns (eat_in assigns >>= λ m. low.assign >>= λ r.
          done (pair_node forms.AssignNode t m r)) (done t)) (done t) rest ≡ Got t rest
      go true = let c : begins assigns rest ≡ false = behind_assigns rest b in rw c refl
      go false = refl
  full_assign (grammar.assign {l = l} {x = x} h j m q {r = r} {y = y} k) d rest b =
      rw (append_assoc x (tok j m ∷ y) rest)
      (onto _ (full_cond (grammar.cond_level (level_of_unary 10 h)) (omega arith) (tok j m ∷ (y ++ rest))
      (behind_assign j q m (y ++ rest)))
      (rw (unary_is h, q) (onto _ (f.assign k (omega arith) rest b) refl)))

  expr_goes : {l : Syntax} {x : List Leaf} → Spells Expr (one l) x → nesting l ≤ suc n → (rest : List Leaf) →
      Behind 12 rest → (m : ℕ) × (n + 1 ≤ m + nesting l) ×
      (expr_of n low (x ++ rest) ≡ chain n (is terminals.Comma) (expr_step n low) m l rest)
  unfolding expr_of expr_step
  expr_goes (grammar.expr_assign {t = t} h) d rest b = (
    n,
    omega (arith, nested t),
    onto (λ l. chain n (is terminals.Comma) (expr_step n low) n l)
        (full_assign h d rest b) refl,
  )
  expr_goes (grammar.expr {l = l} {x = x} h m {r = r} {y = y} i) d rest b =
      let before = expr_goes h (omega arith) (tok terminals.Comma m ∷ (y ++ rest)) refl in
      let step : expr_step n low l (tok terminals.Comma m ∷ (y ++ rest)) ≡ Got (pair_node forms.ExprNode l m r) rest =
      onto _ (f.assign i (omega arith) rest b) refl in (
        before.0 - 1,
        omega (arith, before.1),
        ap (expr_of n low) (append_assoc x (tok terminals.Comma m ∷ y) rest) ∙ before.2
            ∙ chain_goes n (is terminals.Comma) (expr_step n low) before.0 l (tok terminals.Comma m ∷ (y ++ rest))
            refl (at_most (nesting l) n (omega arith)) (omega (arith, before.1))
            ∙ onto (chain n (is terminals.Comma) (expr_step n low) (before.0 - 1)) step refl,
      )

  pub full_expr : {t : Syntax} {x : List Leaf} → Spells Expr (one t) x → nesting t ≤ suc n → (rest : List Leaf) →
      Behind 13 rest → expr_of n low (x ++ rest) ≡ Got t rest
  full_expr {t} h d rest b =
      let before = expr_goes h d rest (behind_less 12 13 rest (omega arith) b) in
      before.2 ∙ chain_stops n (is terminals.Comma) (expr_step n low) before.0 t rest
      (behind_not 13 terminals.Comma rest refl b)
