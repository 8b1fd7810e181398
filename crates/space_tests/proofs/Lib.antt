mod SpareFrames
