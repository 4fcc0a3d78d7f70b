-- A source text that is spelled has at most as many bytes as its limit.
use Rattle.std.proofs.Common.{◌≤◌, length, arith}
use Rattle.file_limits.specs.Lengths.{SourcesEnd}

pub sources_end : SourcesEnd
sources_end text tokens h = let short : length text ≤ 65536 = h.short in omega (arith, short)
