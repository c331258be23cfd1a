use Rattle.std.proofs.Common.{rules, ◌∙◌}
use Rattle.std.specs.Prelude.{string_bytes}
use Rattle.std.proofs.lemmas.Result.{IfOk-weaker}
use Rattle.std.proofs.lemmas.Str.{IsUtf8-string_bytes}
use Rattle.wg_cache.proofs.Files.{name_utf8}
use Rattle.wg_cache.proofs.keys.name_of.Goals as goal

pub returns-clause-utf8 : goal.returns-clause-utf8
returns-clause-utf8 c =
    IfOk-weaker c.new.result _ _ (λ w e.
    name_utf8 c.as_bytes.result.now (string_bytes c.in-Ok.digits) w c.as_bytes.ensures.utf8
    (IsUtf8-string_bytes c.in-Ok.digits) (e ∙ search rules)) c.new.ensures
