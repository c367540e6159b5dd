-- The default settings. Definitions only.
use Rattle.std.specs.Prelude.{true, Float, Some}
use Rattle.fraction.specs.Fraction.{decimal}
use Rattle.settings.specs.declared.Mode.{Mode}
use Rattle.settings.specs.declared.Mode.TheVariants.{Alone, Lead, Standby}
use Rattle.settings.specs.declared.Settings.{Settings}
use Rattle.settings.specs.declared.Increase.TheVariants as increase
use Rattle.settings.specs.declared.Flash.TheVariants as flash
use Rattle.settings.specs.declared.Decrease.TheVariants as decrease

-- "In alone mode the default minimum clean fraction becomes 0.01; lead and standby stay at 0.3."
abbrev pub default_clean : Mode → Float
default_clean Alone = decimal 1 100
default_clean Lead = decimal 3 10
default_clean Standby = decimal 3 10

-- "evictions on, 2,097,152 initial, maximum 33,554,432, minimum 1,048,576, epoch 50,000, rates 0.9 and 0.999, multiplier 2.0, caps
-- 4,194,304 and 1,048,576, flash 1.0 and 0.25, age-out with threshold, 3 epochs, reserve 0.1"
unfoldable pub defaults : Mode → Settings
defaults mode = record {
  evictions = true;
  preset = true;
  initial = 2097152;
  clean = default_clean mode;
  largest = 33554432;
  smallest = 1048576;
  epoch = 50000;
  increase = increase.Threshold (decimal 9 10) (decimal 2 1);
  increment = Some 4194304;
  flash = flash.On (decimal 1 1) (decimal 25 100);
  decrease = decrease.AgeOutWithThreshold (decimal 999 1000) 3 (decimal 1 10);
  decrement = Some 1048576;
}

-- The default settings of every mode before they went by the mode: "clean fraction 0.3" and the rest.
unfoldable pub defaults_before : Settings
defaults_before = record {
  evictions = true;
  preset = true;
  initial = 2097152;
  clean = decimal 3 10;
  largest = 33554432;
  smallest = 1048576;
  epoch = 50000;
  increase = increase.Threshold (decimal 9 10) (decimal 2 1);
  increment = Some 4194304;
  flash = flash.On (decimal 1 1) (decimal 25 100);
  decrease = decrease.AgeOutWithThreshold (decimal 999 1000) 3 (decimal 1 10);
  decrement = Some 1048576;
}

-- Settings with another minimum clean fraction.
unfoldable pub with_clean : Float → Settings → Settings
with_clean fraction s = record {
  evictions = s.evictions;
  preset = s.preset;
  initial = s.initial;
  clean = fraction;
  largest = s.largest;
  smallest = s.smallest;
  epoch = s.epoch;
  increase = s.increase;
  increment = s.increment;
  flash = s.flash;
  decrease = s.decrease;
  decrement = s.decrement;
}
