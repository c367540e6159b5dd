-- The request that numbers stand for, if they stand for one.
use Rattle.std.specs.Prelude.{Option}
use Rattle.rules.specs.declared.request.Request.{Request}

abbrev pub Asked : Type 0
Asked = Option Request
