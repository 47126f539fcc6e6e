use Rattle.font_theory.proofs.SettingsLemmas.{IsKind-by}
use Rattle.font_theory.proofs.kinds.settings_are_kinds.Goals as goal

pub returns : goal.returns
returns c = IsKind-by
