-- What is set for connections that are served at once.
use Rattle.std.specs.Prelude.{◌≡◌, ◌⊎◌}
use Rattle.pdpd.specs.declared.fault.Fault.{Fault}
use Rattle.pdpd.specs.declared.fault.Fault.TheVariants.{End, Memory}
use Rattle.pdpd.specs.declared.serve.setting.Setting.TheVariants.{Message}
use Rattle.pdpd.specs.Fault.{IsOfSetting}
use Rattle.pdpd.specs.running.Serving.{IsOfSettings}

-- a fault of the way in which the program is told to end, or want of memory
abbrev pub IsOfEnd : Fault → Type 0
IsOfEnd fault = (fault ≡ End) ⊎ (fault ≡ Memory)

-- a fault of one of the settings, or want of memory
abbrev pub IsOfListenSettings : Fault → Type 0
IsOfListenSettings fault = IsOfSettings fault ⊎ (IsOfSetting Message fault ⊎ IsOfEnd fault)
